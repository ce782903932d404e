use Rattle.std.proofs.Common.{rules, ◌≡◌, ◌∷◌, [], length, refl, Ok, Err}
use Rattle.relay_io.specs.declared.door.Turn.{Turn}
use Rattle.backfill.specs.Served.{notice, served}
use Rattle.backfill.specs.declared.serve_fault.ServeFault.{ServeFault}
use Rattle.backfill.specs.declared.serving.Served.{Served}
use Rattle.backfill.proofs.Damage.{served_same}
use Rattle.backfill.proofs.Sendings.{sends_ended}
use Rattle.backfill.proofs.serving.serve.Goals as goal

pub returns-in-Ok-clause-served : goal.returns-in-Ok-clause-served
returns-in-Ok-clause-served g c = λ told held holds.
    sends_ended g.G.Door.tells (served held c.args.cursor) (length (notice held c.args.cursor)) (Turn.Closed ∷ []) (g.G.Door.turns c.args.door.now) (g.G.Door.turns c.send_all.new.door) (g.G.Door.turns c.close.new.self)
    c.in_ok-served.served.sent (Ok c.in_ok-served.served.sent) (c.in_ok-served.ensures.sent told held holds) c.in-Ok.ensures.closed refl

pub returns-in-Err-clause-served : goal.returns-in-Err-clause-served
returns-in-Err-clause-served g c = λ told held holds.
    sends_ended g.G.Door.tells (served held c.args.cursor) (length (notice held c.args.cursor)) (Turn.Failed ∷ []) (g.G.Door.turns c.args.door.now) (g.G.Door.turns c.send_all.new.door) (g.G.Door.turns c.close.new.self)
    c.in_ok-served.served.sent (Err (ServeFault.Door c.in_ok-served.served.sent)) (c.in_ok-served.ensures.sent told held holds) c.in-Err.ensures.broken refl

pub returns-in_err-served-clause-damaged : goal.returns-in_err-served-clause-damaged
returns-in_err-served-clause-damaged g c =
    let is : c.from_residual.result ≡ Err c.in_err-served.field-0.0 = search rules in
    served_same Served (g.E.Events.damage c.args.events.now) _ c.in_err-served.field-0.0 c.from_residual.result is c.in_err-served.ensures.damaged
