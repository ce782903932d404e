use Rattle.std.proofs.lemmas.Result.{err_from_is_err_and}
use Rattle.std.proofs.Common.{[]}
use Rattle.row_codec.proofs.Loops.{one_row, no_row, all_rows}
use Rattle.row_codec.proofs.reading.read_counted.Goals as goal

pub returns-in_err-read_row : goal.returns-in_err-read_row
returns-in_err-read_row c =
    let p = err_from_is_err_and c.from_residual.result c.from_residual.ensures.1 in
    rw (p.1, p.2) (no_row c.rows.rows c.args.count c.rows.counter c.rows.reader.rest.now _ c.rows.invariant (λ row. (row, [])) (λ rows. (rows, [])) c.in_err-read_row.field-0.0 c.rows-test.true c.in_err-read_row.ensures)

pub rows-preserved : goal.rows-preserved
rows-preserved c =
    one_row c.rows.rows c.args.count c.rows.counter c.rows.reader.rest.now _ c.rows.invariant c.in_ok-read_row.field-0 c.push.new.self c.read_row.new.reader.rest.now c.rows-test.true c.in_ok-read_row.ensures c.in_ok-push.ensures.ok

pub returns : goal.returns
returns c = all_rows c.rows.rows c.args.count c.rows.counter c.rows.reader.rest.now _ c.rows.invariant c.rows-test.false
