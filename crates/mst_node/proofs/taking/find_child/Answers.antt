use Rattle.at_cbor.proofs.Taken.{link_long}
use Rattle.mst_node.proofs.taking.find_child.Goals as goal

pub split_at-requires : goal.split_at-requires
split_at-requires c = link_long c.in-Some.front.now c.in-Some-parse_binary.link c.in-Some-parse_binary.ensures
