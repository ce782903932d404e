use Rattle.std.proofs.lemmas.Result.{err_from_is_err_and}
use Rattle.at_event.proofs.ReadOps.{no_op, one_op, all_ops}
use Rattle.at_event.proofs.table.read_ops.Goals as goal

pub returns-in_err-read_op : goal.returns-in_err-read_op
returns-in_err-read_op c =
    let p = err_from_is_err_and c.from_residual.result c.from_residual.ensures.1 in
    rw (p.1, p.2) (no_op c.args.values.now c.loop-value.value-index c.value-item.result c.loop-value-test.true c.value-item.is c.loop-value.ops _ c.loop-value.invariant c.in_err-read_op.field-0.0 c.in_err-read_op.ensures)

pub loop-value-preserved : goal.loop-value-preserved
loop-value-preserved c =
    one_op c.args.values.now c.loop-value.value-index c.value-item.result c.loop-value-test.true c.value-item.is c.loop-value.ops _ c.loop-value.invariant c.in_ok-read_op.field-0 c.push.new.self c.in_ok-read_op.ensures c.in_ok-push.ensures.ok

pub returns : goal.returns
returns c = all_ops c.args.values.now c.loop-value.value-index c.loop-value.ops _ c.loop-value-test.false c.loop-value.invariant
