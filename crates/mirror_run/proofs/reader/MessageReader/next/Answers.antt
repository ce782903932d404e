use Rattle.std.proofs.Common.{arith}
use Rattle.std.proofs.lemmas.Result.{err_from_is_err_and}
use Rattle.mirror_run.proofs.Nexts.{no_piece, no_more}
use Rattle.mirror_run.proofs.reader.MessageReader.next.Goals as goal

pub returns-in_err-take_piece-clause-next : goal.returns-in_err-take_piece-clause-next
returns-in_err-take_piece-clause-next g c = λ told.
    let e = c.in_err-take_piece.ensures in
    let p = err_from_is_err_and c.from_residual-in_err-take_piece.result c.from_residual-in_err-take_piece.ensures.1 in
    rw (p.1, p.2)
    (no_piece c.args.self.now c.pieces.self _ _ (c.pieces.invariant.stays told) c.pieces.invariant.place c.pieces.invariant.most c.take_piece.new.self _ (e.stays told) (rw c.in-More.is at c.in_ok-message.ensures.shown) _ e.cause (λ is. e.spent cc))

pub returns-then-branch-eq0-clause-next : goal.returns-then-branch-eq0-clause-next
returns-then-branch-eq0-clause-next g c = λ told.
    let o = c.in_ok-take_piece.ensures in
    no_more c.args.self.now c.pieces.self _ _ (c.pieces.invariant.stays told) c.pieces.invariant.place c.pieces.invariant.most c.take_piece.new.self _ (o.stays told) (rw c.in-More.is at c.in_ok-message.ensures.shown) (o.end told c.if-branch-eq0.true) (omega (arith, o.count, c.if-branch-eq0.true)) c.end.result c.end.ensures
