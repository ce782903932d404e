use Rattle.std.proofs.Common.{length, ◌-◌, ◌+◌, ◌*◌}
use Rattle.std.specs.Prelude.{option_map}
use Rattle.mst_node.specs.FirstFault.{in_part}
use Rattle.mst_node.specs.Reading.{node_of}
use Rattle.mst_node.specs.TreeReading.{part_at}
use Rattle.mst_view.proofs.Filling.{AreRead}
use Rattle.mst_view.proofs.reading.+read.Given as goal

abbrev pub decreases-read_below : goal.decreases-read_below
decreases-read_below l = 4 * l.layer + 1

abbrev pub decreases-read_tree : goal.decreases-read_tree
decreases-read_tree l = 4 * l.layer

abbrev pub decreases-read_rights : goal.decreases-read_rights
decreases-read_rights l = 4 * l.layer + 2

abbrev pub decreases-read_branch : goal.decreases-read_branch
decreases-read_branch l = 4 * l.layer + 3

abbrev pub invariant-read_rights-parts : goal.invariant-read_rights-parts
invariant-read_rights-parts l = AreRead (part_at in_part node_of l.blocks l.layer) l.layer (option_map (λ k. k.now) l.high) l.fn.rest.items l.rest.items l.next

abbrev pub decreases-read_rights-parts : goal.decreases-read_rights-parts
decreases-read_rights-parts l = length l.rest.items - l.next
