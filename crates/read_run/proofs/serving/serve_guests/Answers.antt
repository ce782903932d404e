use Rattle.std.proofs.Common.{◌≡◌, ◌∙◌, ℕ, inl, inr, arith, subst, sym}
use Rattle.std.specs.Prelude.{IsTrue, []}
use Rattle.run_base.specs.Ends.{Writes}
use Rattle.read_run.specs.Sessions.{sessions_end_line}
use Rattle.read_run.proofs.Counting.{serving_more, serving_over, serving_stopped, serving_unwritten, still_same}
use Rattle.read_run.proofs.EventsRead.{read_again}
use Rattle.read_run.proofs.serving.serve_guests.Goals as goal

pub returns-in-Ok-None-clause-served : goal.returns-in-Ok-None-clause-served
returns-in-Ok-None-clause-served g c = λ told held holds.
    serving_over _ _ _ _ held _ _ _ _ _ c.guests.auto.served-end (c.guests.invariant.serving told held holds)
    (g.O.Sink.written c.end_sessions.new.out) c.end_sessions.result
    (inr ((rw c.in-Ok-None.field-0-is at c.in-Ok-None.ensures.accepted) told held
    (c.guests.invariant.read.same told held holds))) c.end_sessions.ensures.few c.end_sessions.ensures.written

pub returns-in-Err-clause-served : goal.returns-in-Err-clause-served
returns-in-Err-clause-served g c = λ told held holds.
    serving_stopped _ _ _ _ held _ _ _ _ _ c.guests.auto.served-end (c.guests.invariant.serving told held holds)
    c.in-Err.status c.in-Err.ensures.few
    (c.in-Err.ensures.accepted told held (c.guests.invariant.read.same told held holds))

pub returns-in-Err-write_session-clause-served : goal.returns-in-Err-write_session-clause-served
returns-in-Err-write_session-clause-served g c = λ told held holds.
    serving_unwritten _ _ _ _ held _ _ _ _ _ c.guests.auto.served-end (c.guests.invariant.serving told held holds)
    c.in-Ok-Some.session (g.O.Sink.written c.write_session.new.out) c.in-Err-write_session.status
    ((rw c.in-Ok-Some.field-0-is at c.in-Ok-Some.ensures.accepted) told held
    (c.guests.invariant.read.same told held holds)) (omega (arith, c.guests-test.true))
    c.in-Err-write_session.ensures.few c.in-Err-write_session.ensures.written

pub guests-preserved : goal.guests-preserved
guests-preserved g c = record {
  known = λ told. let held = c.guests.invariant.known told in
      (held.0, c.in-Ok-Some.ensures.read.same told held.0 held.1);
  serving = λ told held holds.
      serving_more _ _ c.args.count _ held _ _ _ _ _ c.guests.auto.served-end
      (c.guests.invariant.serving told held holds) c.in-Ok-Some.session (g.O.Sink.written c.write_session.new.out)
      ((rw c.in-Ok-Some.field-0-is at c.in-Ok-Some.ensures.accepted) told held
      (c.guests.invariant.read.same told held holds)) c.in-Ok.ensures.written;
  read = read_again _ _ _ _ _ _ _ _ c.guests.invariant.read c.in-Ok-Some.ensures.read;
  door = c.in-Ok-Some.ensures.door.own.steady (λ is. absurd cc) ∙ c.guests.invariant.door;
  sessions = omega (arith, c.guests.invariant.sessions, c.in-Ok-Some.ensures.door.kept);
  output = c.in-Ok.ensures.counts.steady (λ is. absurd cc) ∙ c.guests.invariant.output;
  later = g.met.E.Events.later_again _ _ _ c.guests.invariant.later c.in-Ok-Some.ensures.later;
}

pub returns-clause-served : goal.returns-clause-served
returns-clause-served g c = λ told held holds.
    let all : c.guests.served ≡ c.args.count = omega (arith, c.guests-test.false, c.guests.auto.served-end) in
    serving_over _ _ _ _ held _ _ _ _ _ c.guests.auto.served-end (c.guests.invariant.serving told held holds)
    (g.O.Sink.written c.end_sessions-2.new.out) c.end_sessions-2.result
    (inl (all, still_same _ _)) c.end_sessions-2.ensures.few
    (subst (λ (n : ℕ). IsTrue g.O.Sink.tells → Writes c.end_sessions-2.result [] (sessions_end_line n)
    (g.O.Sink.written c.guests.out) (g.O.Sink.written c.end_sessions-2.new.out)) (sym all)
    c.end_sessions-2.ensures.written)
