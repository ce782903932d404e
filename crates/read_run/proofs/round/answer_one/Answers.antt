use Rattle.std.proofs.Common.{◌∙◌, List, ℕ, true, false, refl, sym, ap, subst}
use Rattle.std.specs.Prelude.{codes}
use Rattle.std.proofs.lemmas.List.{append-nil}
use Rattle.relay_query.specs.Replies.{IsReplyTo}
use Rattle.read_run.specs.AtWire.{at_wire}
use Rattle.read_run.specs.Queried.{Replied}
use Rattle.read_run.specs.Rounds.{status_code_in}
use Rattle.read_run.proofs.Querying.{answered_by}
use Rattle.read_run.proofs.round.answer_one.Goals as goal

pub returns-in-Ok-send-clause-answered : goal.returns-in-Ok-send-clause-answered
returns-in-Ok-send-clause-answered g c = λ J holds.
    let replied : Replied g.W.Wire.tells J c.args.request.now c.as_slice.result.now true
    (at_wire (g.W.Wire.requests c.args.wire.now) (g.W.Wire.exchanges c.args.wire.now)
    (g.W.Wire.send_faults c.args.wire.now))
    (at_wire (g.W.Wire.requests c.send.new.self) (g.W.Wire.exchanges c.send.new.self)
    (g.W.Wire.send_faults c.send.new.self)) = record {
      is = subst (λ (m : List ℕ). IsReplyTo J c.args.request.now m) (sym c.as_slice.ensures.value)
          (c.in-Ok.ensures J holds);
      requests = c.in-Ok-send.ensures.same;
      exchanges = c.in-Ok-send.ensures.sent;
      counted = c.in-Ok-send.ensures.steady;
    } in
    answered_by g.W.Wire.tells g.O.Sink.tells J c.args.number c.args.request.now c.as_slice.result.now true _ _
    (g.O.Sink.written c.args.out.now) (g.O.Sink.written c.write_request.new.out) c.code_of.result.now
    c.write_request.result replied (c.code_of.ensures ∙ ap status_code_in
    (c.as_slice-in-Ok-send.ensures.value ∙ sym c.as_slice.ensures.value)) c.write_request.ensures.written
    c.write_request.ensures.few

pub returns-clause-answered : goal.returns-clause-answered
returns-clause-answered g c = λ J holds.
    let replied : Replied g.W.Wire.tells J c.args.request.now c.as_slice.result.now false
    (at_wire (g.W.Wire.requests c.args.wire.now) (g.W.Wire.exchanges c.args.wire.now)
    (g.W.Wire.send_faults c.args.wire.now))
    (at_wire (g.W.Wire.requests c.send.new.self) (g.W.Wire.exchanges c.send.new.self)
    (g.W.Wire.send_faults c.send.new.self)) = record {
      is = subst (λ (m : List ℕ). IsReplyTo J c.args.request.now m) (sym c.as_slice.ensures.value)
          (c.in-Ok.ensures J holds);
      requests = c.in-Err-send.ensures.same;
      exchanges = λ t. c.in-Err-send.ensures.kept t ∙ sym (append-nil (g.W.Wire.exchanges c.args.wire.now));
      counted = c.in-Err-send.ensures.failed;
    } in
    answered_by g.W.Wire.tells g.O.Sink.tells J c.args.number c.args.request.now c.as_slice.result.now false _ _
    (g.O.Sink.written c.args.out.now) (g.O.Sink.written c.write_request-in-Err-send.new.out) (codes "failed")
    c.write_request-in-Err-send.result replied refl c.write_request-in-Err-send.ensures.written
    c.write_request-in-Err-send.ensures.few
