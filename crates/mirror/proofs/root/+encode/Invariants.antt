use Rattle.std.proofs.Common.{◌≡◌, ◌+◌, ◌*◌, ◌++◌, length}
use Rattle.mst_node.specs.Trees.{entries_at, part_link}
use Rattle.mirror.proofs.root.+encode.Given as goal

abbrev pub decreases-part_link : goal.decreases-part_link
decreases-part_link l = 3 * l.layer

abbrev pub decreases-entries_at : goal.decreases-entries_at
decreases-entries_at l = 3 * l.layer + 1

abbrev pub decreases-node_over : goal.decreases-node_over
decreases-node_over l = 3 * l.layer + 2

abbrev pub invariant-entries_at-items : goal.invariant-entries_at-items
invariant-entries_at-items l = l.entries.items ++ entries_at (part_link l.layer) l.layer l.rest ≡ entries_at (part_link l.layer) l.layer l.items

abbrev pub decreases-entries_at-items : goal.decreases-entries_at-items
decreases-entries_at-items l = length l.rest
