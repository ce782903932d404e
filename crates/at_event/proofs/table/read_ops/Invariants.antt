use Rattle.std.proofs.Common.{◌≡◌, map}
use Rattle.at_cbor.specs.View.{item_of}
use Rattle.at_event.specs.Table.{ops_of}
use Rattle.at_event.proofs.ReadOps.{from_place}
use Rattle.at_event.proofs.table.read_ops.Given as goal

abbrev pub invariant-loop-value : goal.invariant-loop-value
invariant-loop-value l = from_place l.ops l.values l.value-index ≡ ops_of (map item_of l.values)
