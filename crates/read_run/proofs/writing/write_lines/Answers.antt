use Rattle.std.proofs.Common.{◌≡◌, ◌∙◌, ◌++◌, ◌<◌, ℕ, List, Err, arith, ap, subst}
use Rattle.std.specs.Prelude.{option_map, []}
use Rattle.at_event.specs.Frames.{frame_of}
use Rattle.json_lines.specs.Lines.{lines_read}
use Rattle.backfill.proofs.Upto.{greater_right}
use Rattle.run_base.specs.Ends.{Writes}
use Rattle.read_run.proofs.EventsRead.{read_again}
use Rattle.read_run.proofs.Lining.{lines_broken, lines_done, lines_unread, lining_more}
use Rattle.read_run.proofs.writing.write_lines.Goals as goal

pub returns-in-Ok-None-clause-lined : goal.returns-in-Ok-None-clause-lined
returns-in-Ok-None-clause-lined g c = λ told held holds.
    lines_done _ _ held _ _ _ _ (c.events.invariant.lining told held holds)
    ((rw c.in-Ok-None.field-0-is at c.in-Ok-None.ensures.next) told held (c.events.invariant.read.same told held holds))

pub returns-in-Err-clause-lined : goal.returns-in-Err-clause-lined
returns-in-Err-clause-lined g c = λ told held holds. lines_unread _ _ held _ _ _ _
    (c.events.invariant.lining told held holds) c.in-Err.status c.in-Err.ensures.few

pub returns-in-Err-write_message-clause-lined : goal.returns-in-Err-write_message-clause-lined
returns-in-Err-write_message-clause-lined g c = λ told held holds.
    lines_broken _ _ held _ _ _ _ (c.events.invariant.lining told held holds) c.in-Ok-Some.number c.next_above.new.room
    (g.O.Sink.written c.write_message.new.out) c.in-Err-write_message.status c.in-Err-write_message.ensures.few
    ((rw c.in-Ok-Some.field-0-is at c.in-Ok-Some.ensures.next) told held (c.events.invariant.read.same told held holds))
    (λ t. subst (λ (m : List ℕ). Writes c.in-Err-write_message.status []
    (lines_read (option_map (λ text. text.now) c.args.collection) (frame_of m)) (g.O.Sink.written c.events.out)
    (g.O.Sink.written c.write_message.new.out)) c.as_slice.ensures.value (c.in-Err-write_message.ensures.written t))
    (λ is. ap g.O.Sink.written (c.in-Err-write_message.ensures.unwritten (ap Err is)))

pub events-preserved : goal.events-preserved
events-preserved g c =
    let above : c.events.last < c.in-Ok-Some.number = (rw c.in-Ok-Some.field-0-is at c.in-Ok-Some.ensures.above) in
    let upto : g.E.Events.given_upto c.next_above.new.events ≡ c.in-Ok-Some.number =
    (rw c.in-Ok-Some.field-0-is at c.in-Ok-Some.ensures.given) in
    record {
      known = λ told. let held = c.events.invariant.known told in
          (held.0, c.in-Ok-Some.ensures.read.same told held.0 held.1);
      lining = λ told held holds.
          lining_more _ _ _ _ _ _ _ (c.events.invariant.lining told held holds) c.in-Ok-Some.number
          c.next_above.new.room (g.O.Sink.written c.write_message.new.out)
          ((rw c.in-Ok-Some.field-0-is at c.in-Ok-Some.ensures.next) told held
          (c.events.invariant.read.same told held holds))
          (λ t. subst (λ (m : List ℕ). g.O.Sink.written c.write_message.new.out ≡ g.O.Sink.written c.events.out
          ++ lines_read (option_map (λ text. text.now) c.args.collection) (frame_of m)) c.as_slice.ensures.value
          (c.in-Ok.ensures.written t));
      read = read_again _ _ _ _ _ _ _ _ c.events.invariant.read c.in-Ok-Some.ensures.read;
      output = c.in-Ok.ensures.counts.steady (λ is. absurd cc) ∙ c.events.invariant.output;
      rising = omega (arith, above, c.events.invariant.rising);
      given = λ low. greater_right c.args.cursor (g.E.Events.given_upto c.next_above.new.events)
          (omega (arith, above, c.events.invariant.rising, upto)) ∙ upto;
      later = g.met.E.Events.later_again _ _ _ c.events.invariant.later c.in-Ok-Some.ensures.later;
    }
