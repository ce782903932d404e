use Rattle.std.proofs.Common.{◌∙◌}
use Rattle.mst_node.proofs.Writes.{node_written}
use Rattle.mst_node.proofs.writing.encode_node.Goals as goal

pub returns : goal.returns
returns c = node_written c.args.left.now c.args.entries.now _ _ _ _ (c.from_vec-out.ensures ∙ c.in_ok-with_capacity.ensures.items) c.in_ok-write_front.ensures c.in_ok-write_entries.ensures c.in_ok-write_end.ensures
