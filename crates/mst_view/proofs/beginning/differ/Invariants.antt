use Rattle.std.proofs.Common.{◌≡◌, ◌≤◌, length, drop, true}
use Rattle.std.specs.List.{list_all}
use Rattle.std.specs.Prelude.{nat_eq}
use Rattle.at_cid.specs.Distinct.{all_differ}
use Rattle.mst_view.specs.declared.beginning.TheConstants.{WORD_MARKS}
use Rattle.mst_view.proofs.Words.{is_word_marked}
use Rattle.mst_view.proofs.beginning.differ.Given as goal

abbrev pub invariant-loop-left : goal.invariant-loop-left
invariant-loop-left l = record {
  in_range : l.left ≤ length l.words;
  long : length l.marks ≡ WORD_MARKS;
  differ : all_differ nat_eq (drop l.left l.words) ≡ true;
  marked : list_all (is_word_marked l.marks) (drop l.left l.words) ≡ true;
}

abbrev pub decreases-loop-left : goal.decreases-loop-left
decreases-loop-left l = l.left
