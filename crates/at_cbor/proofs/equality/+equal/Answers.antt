use Rattle.std.proofs.Common.{ap, arith}
use Rattle.at_cbor.specs.Item.{size_of}
use Rattle.at_cbor.specs.View.{item_of}
use Rattle.at_cbor.proofs.Equal.{values_differ, fields_differ}
use Rattle.at_cbor.proofs.Writes.{value_smaller, field_smaller}
use Rattle.at_cbor.proofs.equality.+equal.Goals as goal

pub equal_values-returns-then-left-right : goal.equal_values-returns-then-left-right
equal_values-returns-then-left-right t c = values_differ c.args.left.now c.args.right.now c.if-left-right.true

pub equal_fields-returns-then-left-right : goal.equal_fields-returns-then-left-right
equal_fields-returns-then-left-right t c = fields_differ c.args.left.now c.args.right.now c.if-left-right.true

pub equal_values-equal_value-requires : goal.equal_values-equal_value-requires
equal_values-equal_value-requires t c =
    (omega (arith, value_smaller c.args.left.now c.values.place c.index-left-place.result c.values-test.true, ap (λ v. size_of (item_of v)) c.index-left-place.is), tt)

pub equal_fields-equal_value-requires : goal.equal_fields-equal_value-requires
equal_fields-equal_value-requires t c =
    (omega (arith, field_smaller c.args.left.now c.fields.place c.index-left-place.result c.fields-test.true, ap (λ f. size_of (item_of f.1)) c.index-left-place.is), tt)
