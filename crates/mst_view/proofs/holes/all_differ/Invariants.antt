use Rattle.std.proofs.Common.{◌≡◌, ℕ, ◌≤◌, List, length, drop, true, not}
use Rattle.std.specs.BTreeSet.{contains}
use Rattle.at_cid.specs.Order.{key_cmp}
use Rattle.std.specs.Str.{bytes_eq}
use Rattle.at_cid.specs.Distinct.{is_absent, all_differ}
use Rattle.mst_view.proofs.holes.all_differ.Given as goal

abbrev pub invariant-loop-left : goal.invariant-loop-left
invariant-loop-left l = record {
  in_range : l.left ≤ length l.links;
  differ : all_differ bytes_eq (drop l.left l.links) ≡ true;
  seen : (c : List ℕ) → contains key_cmp l.seen c ≡ not (is_absent bytes_eq c (drop l.left l.links));
}

abbrev pub decreases-loop-left : goal.decreases-loop-left
decreases-loop-left l = l.left
