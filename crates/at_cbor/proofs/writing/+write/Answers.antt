use Rattle.std.proofs.Common.{below_more, ap, arith}
use Rattle.std.proofs.lemmas.Result.{on_ok_weaker}
use Rattle.at_cbor.specs.Item.{size_of}
use Rattle.at_cbor.specs.View.{item_of}
use Rattle.at_cbor.proofs.Writes.{value_smaller, field_smaller, list_written, map_written, field_written, front_kept}
use Rattle.at_cbor.proofs.Nested.{list_spellable, map_spellable, values_spellable, field_here, fields_spellable}
use Rattle.at_cbor.proofs.writing.+write.Goals as goal

pub put_values-put_value-requires : goal.put_values-put_value-requires
put_values-put_value-requires t c =
    (omega (arith, value_smaller c.args.values.now c.loop-value.value-index c.value-item.result c.loop-value-test.true, ap (λ v. size_of (item_of v)) c.value-item.is), tt)

pub put_fields-put_value-requires : goal.put_fields-put_value-requires
put_fields-put_value-requires t c =
    (omega (arith, field_smaller c.args.fields.now c.loop-key.key-index c.loop-key-item.result c.loop-key-test.true, ap (λ f. size_of (item_of f.1)) c.loop-key-item.is), tt)

pub put_value-returns-in_ok-write_list_front-in-List-clause-written : goal.put_value-returns-in_ok-write_list_front-in-List-clause-written
put_value-returns-in_ok-write_list_front-in-List-clause-written t c = on_ok_weaker c.put_values.result (λ written. rw c.in-List.is (list_written c.args.out.now c.write_list_front.new.out c.put_values.new.out c.as_slice-in-List.result.now c.in-List.values c.len.result c.in_ok-write_list_front-in-List.ensures.written c.len.ensures c.as_slice-in-List.ensures written)) c.put_values.ensures.written

pub put_value-returns-in_ok-write_map_front-in-Map-clause-written : goal.put_value-returns-in_ok-write_map_front-in-Map-clause-written
put_value-returns-in_ok-write_map_front-in-Map-clause-written t c = on_ok_weaker c.put_fields.result (λ written. rw c.in-Map.is (map_written c.args.out.now c.write_map_front.new.out c.put_fields.new.out c.as_slice-in-Map.result.now c.in-Map.fields c.len-in-Map.result c.in_ok-write_map_front-in-Map.ensures.written c.len-in-Map.ensures c.as_slice-in-Map.ensures.value written)) c.put_fields.ensures.written

pub put_value-returns-in_ok-write_list_front-in-List-clause-spellable : goal.put_value-returns-in_ok-write_list_front-in-List-clause-spellable
put_value-returns-in_ok-write_list_front-in-List-clause-spellable t c = on_ok_weaker c.put_values.result (λ each. rw c.in-List.is (list_spellable c.as_slice-in-List.result.now c.in-List.values c.len.result c.as_slice-in-List.ensures c.len.ensures c.len.type_inv each)) c.put_values.ensures.spellable

pub put_value-returns-in_ok-write_map_front-in-Map-clause-spellable : goal.put_value-returns-in_ok-write_map_front-in-Map-clause-spellable
put_value-returns-in_ok-write_map_front-in-Map-clause-spellable t c = on_ok_weaker c.put_fields.result (λ each. rw c.in-Map.is (map_spellable c.as_slice-in-Map.result.now c.in-Map.fields c.len-in-Map.result c.as_slice-in-Map.ensures.value c.len-in-Map.ensures c.len-in-Map.type_inv each)) c.put_fields.ensures.spellable

pub put_values-returns-clause-spellable : goal.put_values-returns-clause-spellable
put_values-returns-clause-spellable t c = values_spellable c.args.values.now (λ k lt. c.loop-value.invariant.spellable k (omega (arith, lt, c.loop-value-test.false)))

pub put_fields-loop-key-preserved : goal.put_fields-loop-key-preserved
put_fields-loop-key-preserved t c = record {
  written = field_written _ c.loop-key.out c.put_words.new.out c.put_value.new.out c.args.fields.now c.loop-key.key-index c.loop-key-item.result c.loop-key-test.true c.loop-key-item.is c.in_ok-put_words.ensures.written c.in_ok-put_value.ensures.written c.loop-key.invariant.written;
  spellable = below_more _ _ c.loop-key.invariant.spellable (field_here c.args.fields.now c.loop-key.key-index c.loop-key-item.result c.loop-key-test.true c.loop-key-item.is (c.in_ok-put_words.ensures.text, c.in_ok-put_value.ensures.spellable));
  kept = front_kept _ c.put_words.new.out c.put_value.new.out _ (front_kept _ c.loop-key.out c.put_words.new.out _ c.loop-key.invariant.kept c.in_ok-put_words.ensures.written) c.in_ok-put_value.ensures.written;
}

pub put_fields-returns-clause-spellable : goal.put_fields-returns-clause-spellable
put_fields-returns-clause-spellable t c = fields_spellable c.args.fields.now (λ k lt. c.loop-key.invariant.spellable k (omega (arith, lt, c.loop-key-test.false))) c.requires
