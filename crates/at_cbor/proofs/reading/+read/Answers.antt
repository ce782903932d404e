use Rattle.std.proofs.lemmas.Result.{err_from_is_err_and}
use Rattle.at_cbor.specs.View.{item_of}
use Rattle.at_cbor.specs.Heads.{flaw_of}
use Rattle.at_cbor.specs.Reading.{item_at}
use Rattle.at_cbor.proofs.Loops.{items_go_on, items_fail, items_done, fields_go_on, fields_fail_at_key, fields_fail_at_value, fields_done}
use Rattle.at_cbor.proofs.Keys.{key_above}
use Rattle.at_cbor.proofs.reading.+read.Goals as goal

pub read_values-returns-in_err-value : goal.read_values-returns-in_err-value
read_values-returns-in_err-value t c =
    let p = err_from_is_err_and c.from_residual.result c.from_residual.ensures.1 in
    rw (p.1, p.2) (items_fail (item_at c.args.depth) c.values.values c.args.count c.values.counter c.values.reader.rest.now _ (flaw_of c.in_err-value.field-0.0) c.values-test.true c.in_err-value.ensures c.values.invariant)

pub read_values-values-preserved : goal.read_values-values-preserved
read_values-values-preserved t c =
    rw (c.in_ok-push.ensures.ok, c.make_room.ensures) (items_go_on (item_at c.args.depth) c.values.values c.args.count c.values.counter c.values.reader.rest.now _ (item_of c.in_ok-value.value) c.read_item.new.reader.rest.now c.values-test.true c.in_ok-value.ensures c.values.invariant)

pub read_values-returns : goal.read_values-returns
read_values-returns t c = items_done (item_at c.args.depth) c.values.values c.args.count c.values.counter c.values.reader.rest.now _ c.values-test.false c.values.invariant

pub read_fields-returns-in_err-key : goal.read_fields-returns-in_err-key
read_fields-returns-in_err-key t c =
    let p = err_from_is_err_and c.from_residual.result c.from_residual.ensures.1 in
    rw (p.1, p.2) (fields_fail_at_key (item_at c.args.depth) c.fields.fields c.args.count c.fields.counter c.fields.reader.rest.now _ (flaw_of c.in_err-key.field-0.0) c.fields-test.true c.in_err-key.ensures c.fields.invariant)

pub read_fields-returns-in_err-value : goal.read_fields-returns-in_err-value
read_fields-returns-in_err-value t c =
    let p = err_from_is_err_and c.from_residual-in_err-value.result c.from_residual-in_err-value.ensures.1 in
    rw (p.1, p.2) (fields_fail_at_value (item_at c.args.depth) c.fields.fields c.args.count c.fields.counter c.fields.reader.rest.now _ (flaw_of c.in_err-value.field-0.0) c.in_ok-key.key c.read_key.new.reader.rest.now c.fields-test.true c.in_ok-key.ensures c.in_err-value.ensures c.fields.invariant)

pub read_fields-fields-preserved : goal.read_fields-fields-preserved
read_fields-fields-preserved t c =
    rw (c.in_ok-push.ensures.ok, c.make_room.ensures) (fields_go_on (item_at c.args.depth) c.fields.fields c.args.count c.fields.counter c.fields.reader.rest.now _ c.in_ok-key.key c.read_key.new.reader.rest.now (item_of c.in_ok-value.value) c.read_item.new.reader.rest.now c.fields-test.true c.in_ok-key.ensures c.in_ok-value.ensures c.fields.invariant)

pub read_fields-returns : goal.read_fields-returns
read_fields-returns t c = fields_done (item_at c.args.depth) c.fields.fields c.args.count c.fields.counter c.fields.reader.rest.now _ c.fields-test.false c.fields.invariant

pub read_fields-push-requires : goal.read_fields-push-requires
read_fields-push-requires t c =
    rw c.make_room.ensures (key_above _ _ (c.in_ok-key.key, c.read_key.new.reader.rest.now) c.in_ok-key.ensures)
