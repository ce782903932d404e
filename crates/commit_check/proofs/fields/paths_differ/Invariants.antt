use Rattle.std.proofs.Common.{◌≡◌, ◌≤◌, length, drop, true, not, nat_cmp}
use Rattle.std.specs.BTreeSet.{contains}
use Rattle.std.specs.Cmp.Lexicographic.{slice_cmp}
use Rattle.std.specs.Str.{bytes_eq}
use Rattle.at_cid.specs.Distinct.{all_differ, is_absent}
use Rattle.event_checks.specs.Table.{paths_of}
use Rattle.commit_check.proofs.fields.paths_differ.Given as goal

abbrev pub invariant-loop-left : goal.invariant-loop-left
invariant-loop-left l = record {
  in_range : l.left ≤ length l.ops;
  differ : all_differ bytes_eq (paths_of (drop l.left l.ops)) ≡ true;
  seen : (q : _) → contains (λ a b. slice_cmp nat_cmp a.now b.now) l.seen q ≡ not (is_absent bytes_eq q.now (paths_of (drop l.left l.ops)));
}

abbrev pub decreases-loop-left : goal.decreases-loop-left
decreases-loop-left l = l.left
