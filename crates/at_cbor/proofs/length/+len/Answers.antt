use Rattle.std.proofs.Common.{ap, arith}
use Rattle.at_cbor.specs.Item.{size_of}
use Rattle.at_cbor.specs.View.{item_of}
use Rattle.at_cbor.proofs.Lengths.{list_length, map_length, no_values_left, no_fields_left}
use Rattle.at_cbor.proofs.Writes.{value_smaller, field_smaller}
use Rattle.at_cbor.proofs.length.+len.Goals as goal

pub values_len-value_len-requires : goal.values_len-value_len-requires
values_len-value_len-requires t c =
    (omega (arith, value_smaller c.args.values.now c.loop-value.value-index c.value-item.result c.loop-value-test.true, ap (λ v. size_of (item_of v)) c.value-item.is), tt)

pub fields_len-value_len-requires : goal.fields_len-value_len-requires
fields_len-value_len-requires t c =
    (omega (arith, field_smaller c.args.fields.now c.loop-key.key-index c.loop-key-item.result c.loop-key-test.true, ap (λ f. size_of (item_of f.1)) c.loop-key-item.is), tt)

pub values_len-returns : goal.values_len-returns
values_len-returns t c = omega (arith, c.loop-value.invariant.counted, c.loop-value.invariant.below, no_values_left c.args.values.now c.loop-value.value-index c.loop-value-test.false)

pub fields_len-returns : goal.fields_len-returns
fields_len-returns t c = omega (arith, c.loop-key.invariant.counted, c.loop-key.invariant.below, no_fields_left c.args.fields.now c.loop-key.key-index c.loop-key-test.false)

pub value_len-returns-in-List : goal.value_len-returns-in-List
value_len-returns-in-List t c =
    rw c.in-List.is (omega (arith, c.saturating_add.ensures, c.front_len-front.ensures, c.values_len.ensures, list_length c.as_slice.result.now c.in-List.values c.len-in-List.result c.as_slice.ensures c.len-in-List.ensures))

pub value_len-returns-in-Map : goal.value_len-returns-in-Map
value_len-returns-in-Map t c =
    rw c.in-Map.is (omega (arith, c.saturating_add-in-Map.ensures, c.front_len-front-in-Map.ensures, c.fields_len.ensures, map_length c.as_slice-in-Map.result.now c.in-Map.fields c.len-in-Map.result c.as_slice-in-Map.ensures.value c.len-in-Map.ensures))
