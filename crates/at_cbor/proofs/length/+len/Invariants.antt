use Rattle.std.proofs.Common.{◌≡◌, ◌+◌, ◌-◌, ◌^◌, ◌<◌, length, map, drop}
use Rattle.std.specs.Prelude.{min}
use Rattle.at_cbor.specs.Item.{size_of, items_of, items_size, fields_of, fields_size}
use Rattle.at_cbor.specs.Encoding.{items_encoding, fields_encoding}
use Rattle.at_cbor.specs.View.{item_of, pair_of}
use Rattle.at_cbor.proofs.length.+len.Given as goal

abbrev pub decreases-value_len : goal.decreases-value_len
decreases-value_len l = size_of (item_of l.value.now)

abbrev pub decreases-values_len : goal.decreases-values_len
decreases-values_len l = items_size (items_of (map item_of l.values.now))

abbrev pub decreases-fields_len : goal.decreases-fields_len
decreases-fields_len l = fields_size (fields_of (map pair_of l.fields.now))

abbrev pub invariant-values_len-loop-value : goal.invariant-values_len-loop-value
invariant-values_len-loop-value l = record {
  counted : min (l.sum + length (items_encoding (items_of (map item_of (drop l.value-index l.values))))) (2 ^ 64 - 1) ≡ min (length (items_encoding (items_of (map item_of l.values)))) (2 ^ 64 - 1);
  below : l.sum < 2 ^ 64;
}

abbrev pub invariant-fields_len-loop-key : goal.invariant-fields_len-loop-key
invariant-fields_len-loop-key l = record {
  counted : min (l.sum + length (fields_encoding (fields_of (map pair_of (drop l.key-index l.fields))))) (2 ^ 64 - 1) ≡ min (length (fields_encoding (fields_of (map pair_of l.fields)))) (2 ^ 64 - 1);
  below : l.sum < 2 ^ 64;
}
