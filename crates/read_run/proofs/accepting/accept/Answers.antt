use Rattle.std.proofs.Common.{◌∙◌, ℕ, ap, refl, subst, sym}
use Rattle.relay_io.specs.declared.door.Guest.{Guest}
use Rattle.read_run.specs.AtDoor.{at_door}
use Rattle.read_run.specs.Sessions.{IsCounted}
use Rattle.read_run.proofs.Accepts.{accepted_broken, accepted_none, accepted_served}
use Rattle.read_run.proofs.accepting.accept.Goals as goal

pub returns-in-Ok-serve_session-clause-accepted : goal.returns-in-Ok-serve_session-clause-accepted
returns-in-Ok-serve_session-clause-accepted g c = λ told held holds.
    accepted_served g.G.Door.tells held c.in-Ok.guest
    (at_door (g.G.Door.guests c.args.door.now) (g.G.Door.turns c.args.door.now)
    (g.G.Door.session_faults c.args.door.now))
    (at_door (g.G.Door.guests c.next.new.self) (g.G.Door.turns c.next.new.self)
    (g.G.Door.session_faults c.next.new.self))
    (at_door (g.G.Door.guests c.serve_session.new.door) (g.G.Door.turns c.serve_session.new.door)
    (g.G.Door.session_faults c.serve_session.new.door))
    c.in-Ok.ensures.guest c.in-Ok.ensures.gone c.in-Ok.ensures.came c.serve_session.ensures.guests c.as_str.result.now
    c.in-Ok-serve_session.session
    (c.in-Target.is ∙ ap Guest.Target (sym c.as_str.ensures.value))
    (c.in-Ok-serve_session.ensures.served told held holds)
    (subst (λ (n : ℕ). IsCounted c.in-Ok-serve_session.session n (g.G.Door.session_faults c.serve_session.new.door))
    c.in-Ok.ensures.session_counts c.in-Ok-serve_session.ensures.counted)

pub returns-in-Target-clause-accepted : goal.returns-in-Target-clause-accepted
returns-in-Target-clause-accepted g c = λ told held holds.
    accepted_broken g.G.Door.tells held c.in-Ok.guest
    (at_door (g.G.Door.guests c.args.door.now) (g.G.Door.turns c.args.door.now)
    (g.G.Door.session_faults c.args.door.now))
    (at_door (g.G.Door.guests c.next.new.self) (g.G.Door.turns c.next.new.self)
    (g.G.Door.session_faults c.next.new.self))
    (at_door (g.G.Door.guests c.serve_session.new.door) (g.G.Door.turns c.serve_session.new.door)
    (g.G.Door.session_faults c.serve_session.new.door))
    c.in-Ok.ensures.guest c.in-Ok.ensures.gone c.in-Ok.ensures.came c.serve_session.ensures.guests c.as_str.result.now
    c.in-Err.status c.in-Err.ensures.few
    (c.in-Target.is ∙ ap Guest.Target (sym c.as_str.ensures.value)) (c.in-Err.ensures.served told held holds)
    (c.in-Err.ensures.counted ∙ c.in-Ok.ensures.session_counts)

pub returns-in-NoHandshake-clause-accepted : goal.returns-in-NoHandshake-clause-accepted
returns-in-NoHandshake-clause-accepted g c = λ told held holds.
    accepted_none g.G.Door.tells held c.in-Ok.guest
    (at_door (g.G.Door.guests c.args.door.now) (g.G.Door.turns c.args.door.now)
    (g.G.Door.session_faults c.args.door.now))
    (at_door (g.G.Door.guests c.next.new.self) (g.G.Door.turns c.next.new.self)
    (g.G.Door.session_faults c.next.new.self))
    (at_door (g.G.Door.guests c.next.new.self) (g.G.Door.turns c.next.new.self)
    (g.G.Door.session_faults c.next.new.self))
    c.in-Ok.ensures.guest c.in-Ok.ensures.gone c.in-Ok.ensures.came (λ _. refl) c.in-NoHandshake.is refl
    c.in-Ok.ensures.session_counts
