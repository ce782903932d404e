use Rattle.std.proofs.Common.{◌≡◌, map, drop}
use Rattle.at_cbor.specs.Equal.{items_eq, fields_eq}
use Rattle.at_cbor.specs.Item.{size_of, items_of, items_size, fields_of, fields_size}
use Rattle.at_cbor.specs.View.{item_of, pair_of}
use Rattle.at_cbor.proofs.equality.+equal.Given as goal

abbrev pub decreases-equal_value : goal.decreases-equal_value
decreases-equal_value l = size_of (item_of l.left.now)

abbrev pub decreases-equal_values : goal.decreases-equal_values
decreases-equal_values l = items_size (items_of (map item_of l.left.now))

abbrev pub decreases-equal_fields : goal.decreases-equal_fields
decreases-equal_fields l = fields_size (fields_of (map pair_of l.left.now))

abbrev pub invariant-equal_values-values : goal.invariant-equal_values-values
invariant-equal_values-values l = items_eq (items_of (map item_of (drop l.place l.left))) (items_of (map item_of (drop l.place l.right))) ≡ items_eq (items_of (map item_of l.left)) (items_of (map item_of l.right))

abbrev pub invariant-equal_fields-fields : goal.invariant-equal_fields-fields
invariant-equal_fields-fields l = fields_eq (fields_of (map pair_of (drop l.place l.left))) (fields_of (map pair_of (drop l.place l.right))) ≡ fields_eq (fields_of (map pair_of l.left)) (fields_of (map pair_of l.right))
