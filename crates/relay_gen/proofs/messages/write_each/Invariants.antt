use Rattle.std.proofs.Common.{◌≡◌, ◌++◌, drop, map}
use Rattle.at_cbor.specs.Item.{items_of}
use Rattle.at_cbor.specs.Encoding.{items_encoding}
use Rattle.relay_gen.specs.Messages.{op_item}
use Rattle.relay_gen.specs.Records.{op_of}
use Rattle.relay_gen.proofs.messages.write_each.Given as goal

abbrev pub invariant-loop-change : goal.invariant-loop-change
invariant-loop-change l = l.out ++ items_encoding (items_of (map op_item (map op_of (drop l.change-index l.changes)))) ≡ l.fn.out ++ items_encoding (items_of (map op_item (map op_of l.changes)))
