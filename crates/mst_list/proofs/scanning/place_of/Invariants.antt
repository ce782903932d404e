use Rattle.std.proofs.Common.{◌≡◌, ◌+◌, drop, length}
use Rattle.mst_list.specs.Edits.{before}
use Rattle.mst_list.proofs.scanning.place_of.Given as goal

abbrev pub invariant-loop-i : goal.invariant-loop-i
invariant-loop-i l = l.i + length (before l.key (drop l.i l.items)) ≡ length (before l.key l.items)
