use Rattle.std.proofs.Common.{arith, length-drop}
use Rattle.relay_store.specs.PendingBodies.{cut_to}
use Rattle.store_take.proofs.Rooms.{behind_none, behind_some, length_cut}
use Rattle.store_take.proofs.adding.own_end.Goals as goal

pub returns-then-pending-eq0 : goal.returns-then-pending-eq0
returns-then-pending-eq0 c = omega (arith, behind_none c.args.log.now.end (cut_to c.args.start c.args.pending.now) c.if-pending-eq0.true, length-drop c.args.start c.args.pending.now.body, c.requires.within, c.end.ensures.end, c.len.ensures)

pub returns : goal.returns
returns c =
    omega (arith, behind_some c.args.log.now.end (cut_to c.args.start c.args.pending.now) (λ none. omega (arith, none, c.if-pending-eq0.false)), length_cut c.args.start c.args.pending.now c.requires.within, length-drop c.args.start c.args.pending.now.body, c.end-2.ensures.end, c.len.ensures, c.list_front_len.ensures.len, c.requires.begun, c.requires.within)
