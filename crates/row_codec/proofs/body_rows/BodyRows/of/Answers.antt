use Rattle.std.proofs.lemmas.Result.{err_from_is_err_and}
use Rattle.std.proofs.Common.{[], arith}
use Rattle.row_codec.proofs.Left.{front_taken, no_front, no_count}
use Rattle.row_codec.proofs.body_rows.BodyRows.of.Goals as goal

pub returns-in_err-left : goal.returns-in_err-left
returns-in_err-left c =
    let p = err_from_is_err_and c.from_residual.result c.from_residual.ensures.1 in
    rw (p.1, p.2) (no_front c.args.body.now (λ n. (n, [])) c.in_err-left.field-0.0 c.in_err-left.ensures)

pub returns-then-left-eq0 : goal.returns-then-left-eq0
returns-then-left-eq0 c = no_count c.args.body.now _ c.in_ok-left.left c.in_ok-left.ensures c.then-left-eq0.either

pub returns : goal.returns
returns c = front_taken c.args.body.now _ c.in_ok-left.left (λ i. omega (arith, c.type_inv.body i)) c.in_ok-left.ensures (omega (arith, c.if-left-eq0.false)) c.if-left.false
