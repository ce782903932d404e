use Rattle.std.proofs.Common.{ap, arith}
use Rattle.at_cbor.specs.Item.{size_of}
use Rattle.at_cbor.specs.View.{item_of}
use Rattle.at_cbor.proofs.Keys.{next_above}
use Rattle.at_cbor.proofs.Writes.{value_smaller, field_smaller}
use Rattle.at_cbor.proofs.copying.+copy.Goals as goal

pub copy_values-copy_value-requires : goal.copy_values-copy_value-requires
copy_values-copy_value-requires t c =
    (omega (arith, value_smaller c.args.values.now c.loop-value.value-index c.value-item.result c.loop-value-test.true, ap (λ v. size_of (item_of v)) c.value-item.is), tt)

pub copy_fields-copy_value-requires : goal.copy_fields-copy_value-requires
copy_fields-copy_value-requires t c =
    (omega (arith, field_smaller c.args.fields.now c.loop-key.key-index c.loop-key-item.result c.loop-key-test.true, ap (λ f. size_of (item_of f.1)) c.loop-key-item.is), tt)

pub copy_fields-push-requires : goal.copy_fields-push-requires
copy_fields-push-requires t c = next_above c.loop-key.made c.args.fields.now c.loop-key.key-index c.loop-key-item.result c.in_ok-try_clone.field-0 c.loop-key.invariant c.loop-key-test.true c.loop-key-item.is c.in_ok-try_clone.ensures c.requires
