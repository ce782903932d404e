use Rattle.std.proofs.Common.{◌≡◌, ◌≤◌, drop, length}
use Rattle.mst_list.specs.Edits.{undone}
use Rattle.mst_list.proofs.undoing.undo_all.Given as goal

abbrev pub invariant-loop-left : goal.invariant-loop-left
invariant-loop-left l = record { in_range : l.left ≤ length l.ops; so_far : l.items.items ≡ undone l.initial.items.items (drop l.left l.ops) }

abbrev pub decreases-loop-left : goal.decreases-loop-left
decreases-loop-left l = l.left
