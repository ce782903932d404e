use Rattle.std.proofs.Common.{◌+◌, ◌*◌}
use Rattle.mst_undo.proofs.putting.+undo.Given as goal

abbrev pub decreases-undo_below : goal.decreases-undo_below
decreases-undo_below l = 3 * l.layer

abbrev pub decreases-undo_node : goal.decreases-undo_node
decreases-undo_node l = 3 * l.branch.now.layer + 2

abbrev pub decreases-undo_parts : goal.decreases-undo_parts
decreases-undo_parts l = 3 * l.layer + 1
