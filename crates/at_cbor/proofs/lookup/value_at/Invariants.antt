use Rattle.std.proofs.Common.{◌≡◌, map, drop}
use Rattle.at_cbor.specs.Item.{fields_of}
use Rattle.at_cbor.specs.Kinds.{value_of}
use Rattle.at_cbor.specs.View.{pair_of}
use Rattle.at_cbor.proofs.lookup.value_at.Given as goal

abbrev pub invariant-loop-key : goal.invariant-loop-key
invariant-loop-key l = value_of (fields_of (map pair_of (drop l.key-index l.fields))) l.name ≡ value_of (fields_of (map pair_of l.fields)) l.name
