use Rattle.std.proofs.Common.{◌≡◌, drop}
use Rattle.mst_list.specs.Edits.{value_at}
use Rattle.mst_list.proofs.scanning.value_of.Given as goal

abbrev pub invariant-loop-item : goal.invariant-loop-item
invariant-loop-item l = value_at l.key (drop l.item-index l.items) ≡ value_at l.key l.items
