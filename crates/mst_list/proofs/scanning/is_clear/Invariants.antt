use Rattle.std.proofs.Common.{◌≡◌, drop, false}
use Rattle.mst_list.specs.Faults.{clear_behind}
use Rattle.mst_list.proofs.scanning.is_clear.Given as goal

abbrev pub invariant-loop-i : goal.invariant-loop-i
invariant-loop-i l = clear_behind l.behind l.key (drop l.i l.items) ≡ clear_behind false l.key l.items
