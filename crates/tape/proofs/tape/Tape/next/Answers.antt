use Rattle.std.proofs.Common.{arith}
use Rattle.std.proofs.lemmas.Result.{err_from_is_err_and}
use Rattle.tape.proofs.Nexts.{no_piece, no_more}
use Rattle.tape.proofs.tape.Tape.next.Goals as goal

pub returns-in_err-take_piece-clause-next : goal.returns-in_err-take_piece-clause-next
returns-in_err-take_piece-clause-next g c = λ told.
    let e = c.in_err-take_piece.ensures in
    let p = err_from_is_err_and c.from_residual-in_err-take_piece.result c.from_residual-in_err-take_piece.ensures.1 in
    rw (p.1, p.2)
    (no_piece c.args.self.now c.pieces.self c.take_piece.new.self _ _ _ (c.pieces.invariant.stays told) (e.stays told) (rw c.in-More.is at c.in_ok-record.ensures.shown) e.place e.most e.same _ e.cause (λ is. e.spent cc))

pub returns-then-branch-eq0-clause-next : goal.returns-then-branch-eq0-clause-next
returns-then-branch-eq0-clause-next g c = λ told.
    let o = c.in_ok-take_piece.ensures in
    no_more c.args.self.now c.pieces.self c.take_piece.new.self _ _ _ (c.pieces.invariant.stays told) (o.stays told) (rw c.in-More.is at c.in_ok-record.ensures.shown) o.place o.most (o.end told c.if-branch-eq0.true) (omega (arith, o.count, c.if-branch-eq0.true)) o.before c.end.result c.end.ensures
