use Rattle.at_cbor.proofs.Taken.{link_long}
use Rattle.mst_node.proofs.taking.push_entry.Goals as goal

pub split_at-requires : goal.split_at-requires
split_at-requires g c = link_long c.in-Some-find_value.front.now c.in-Some-parse_binary.value c.in-Some-parse_binary.ensures
