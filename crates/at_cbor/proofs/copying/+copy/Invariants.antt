use Rattle.std.proofs.Common.{◌≡◌, map, take}
use Rattle.at_cbor.specs.Item.{size_of, items_of, items_size, fields_of, fields_size}
use Rattle.at_cbor.specs.View.{item_of, pair_of}
use Rattle.at_cbor.proofs.copying.+copy.Given as goal

abbrev pub decreases-copy_value : goal.decreases-copy_value
decreases-copy_value l = size_of (item_of l.value.now)

abbrev pub decreases-copy_values : goal.decreases-copy_values
decreases-copy_values l = items_size (items_of (map item_of l.values.now))

abbrev pub decreases-copy_fields : goal.decreases-copy_fields
decreases-copy_fields l = fields_size (fields_of (map pair_of l.fields.now))

abbrev pub invariant-copy_values-loop-value : goal.invariant-copy_values-loop-value
invariant-copy_values-loop-value l = l.made ≡ map item_of (take l.value-index l.values)

abbrev pub invariant-copy_fields-loop-key : goal.invariant-copy_fields-loop-key
invariant-copy_fields-loop-key l = l.made ≡ map pair_of (take l.key-index l.fields)
