use Rattle.std.proofs.Common.{◌≡◌, ◌+◌, ◌≤◌, min, length, drop}
use Rattle.mst_node.specs.NodeBytes.{entries_encoding, node_bytes}
use Rattle.mst_node.proofs.writing.encoded_len.Given as goal

abbrev pub invariant-loop-entry : goal.invariant-loop-entry
invariant-loop-entry l = record {
  within : l.sum ≤ 18446744073709551615;
  so_far : min (l.sum + length (entries_encoding l.last (drop l.entry-index l.entries))) 18446744073709551615 ≡ min (length (node_bytes l.left l.entries)) 18446744073709551615;
}
