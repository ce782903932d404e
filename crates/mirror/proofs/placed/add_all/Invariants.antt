use Rattle.std.proofs.Common.{◌≡◌, ◌++◌, take}
use Rattle.mirror.proofs.placed.add_all.Given as goal

abbrev pub invariant-loop-item : goal.invariant-loop-item
invariant-loop-item l = l.placed.items ≡ l.initial.placed.items ++ take l.item-index l.items
