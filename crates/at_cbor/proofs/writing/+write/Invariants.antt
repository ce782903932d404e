use Rattle.std.proofs.Common.{◌≡◌, ◌++◌, length, map, take, drop}
use Rattle.at_cbor.specs.Item.{size_of, items_of, items_size, fields_of, fields_size}
use Rattle.at_cbor.specs.Encoding.{items_encoding, fields_encoding}
use Rattle.at_cbor.specs.View.{item_of, pair_of}
use Rattle.at_cbor.proofs.Nested.{ValuesBefore, FieldsBefore}
use Rattle.at_cbor.proofs.writing.+write.Given as goal

abbrev pub decreases-put_value : goal.decreases-put_value
decreases-put_value l = size_of (item_of l.value.now)

abbrev pub decreases-put_values : goal.decreases-put_values
decreases-put_values l = items_size (items_of (map item_of l.values.now))

abbrev pub decreases-put_fields : goal.decreases-put_fields
decreases-put_fields l = fields_size (fields_of (map pair_of l.fields.now))

abbrev pub invariant-put_values-loop-value : goal.invariant-put_values-loop-value
invariant-put_values-loop-value l = record {
  written : l.out ++ items_encoding (items_of (map item_of (drop l.value-index l.values))) ≡ l.fn.out ++ items_encoding (items_of (map item_of l.values));
  spellable : ValuesBefore l.values l.value-index;
  kept : take (length l.fn.out) l.out ≡ l.fn.out;
}

abbrev pub invariant-put_fields-loop-key : goal.invariant-put_fields-loop-key
invariant-put_fields-loop-key l = record {
  written : l.out ++ fields_encoding (fields_of (map pair_of (drop l.key-index l.fields))) ≡ l.fn.out ++ fields_encoding (fields_of (map pair_of l.fields));
  spellable : FieldsBefore l.fields l.key-index;
  kept : take (length l.fn.out) l.out ≡ l.fn.out;
}
