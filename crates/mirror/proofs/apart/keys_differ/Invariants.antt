use Rattle.std.proofs.Common.{◌≡◌, ℕ, ◌≤◌, Bor, List, length, drop, true, not, nat_cmp}
use Rattle.std.specs.BTreeSet.{contains}
use Rattle.std.specs.Cmp.Lexicographic.{slice_cmp}
use Rattle.std.specs.Str.{bytes_eq}
use Rattle.at_cid.specs.Distinct.{is_absent, all_differ}
use Rattle.mirror.specs.Playing.{keys_of}
use Rattle.mirror.proofs.apart.keys_differ.Given as goal

abbrev pub invariant-loop-left : goal.invariant-loop-left
invariant-loop-left l = record {
  in_range : l.left ≤ length l.ops;
  differ : all_differ bytes_eq (keys_of (drop l.left l.ops)) ≡ true;
  seen : (c : Bor (List ℕ)) → contains (λ x y. slice_cmp nat_cmp x.now y.now) l.seen c ≡ not (is_absent bytes_eq c.now (keys_of (drop l.left l.ops)));
}

abbrev pub decreases-loop-left : goal.decreases-loop-left
decreases-loop-left l = l.left
