use Rattle.std.proofs.Common.{◌≡◌, true, length}
use Rattle.std.specs.List.{All}
use Rattle.mst_view.specs.declared.at_hand.TheConstants.{MARKS}
use Rattle.mst_view.specs.AtHand.{is_marked}
use Rattle.mst_view.proofs.at_hand.AtHand.of.Given as goal

abbrev pub invariant-loop-link : goal.invariant-loop-link
invariant-loop-link l = record {
  long : length l.marks ≡ MARKS;
  marked : All (λ item. is_marked l.marks item.0.now ≡ true) l.yielded;
}
