use Rattle.std.proofs.Common.{◌≡◌, ◌∙◌, ℕ, inl, inr, arith, refl, subst, sym}
use Rattle.std.specs.Prelude.{IsTrue, []}
use Rattle.run_base.specs.Ends.{Writes}
use Rattle.read_run.specs.AtWire.{at_wire}
use Rattle.read_run.specs.Rounds.{queries_end_line}
use Rattle.read_run.proofs.Querying.{answering_stopped, querying_more, querying_over, querying_stopped, still_same}
use Rattle.read_run.proofs.answering.answer_all.Goals as goal

pub returns-in-Ok-false-clause-queried : goal.returns-in-Ok-false-clause-queried
returns-in-Ok-false-clause-queried g c = λ J holds.
    let came = (rw c.in-Ok-false.field-0-test at c.in-Ok-false.ensures.came) in
    querying_over _ _ J _ _ _ _ _ _ c.requests.auto.answered-end (c.requests.invariant.querying J holds)
    (at_wire (g.W.Wire.requests c.come.new.wire) (g.W.Wire.exchanges c.come.new.wire)
    (g.W.Wire.send_faults c.come.new.wire)) (g.O.Sink.written c.end_requests.new.out) c.end_requests.result
    (inr came.0) came.1 c.in-Ok-false.ensures.send c.end_requests.ensures.few c.end_requests.ensures.written

pub returns-in-Err-clause-queried : goal.returns-in-Err-clause-queried
returns-in-Err-clause-queried g c = λ J holds.
    querying_stopped _ _ J _ _ _ _ _ _ c.requests.auto.answered-end (c.requests.invariant.querying J holds)
    (at_wire (g.W.Wire.requests c.come.new.wire) (g.W.Wire.exchanges c.come.new.wire)
    (g.W.Wire.send_faults c.come.new.wire)) c.in-Err.status c.in-Err.ensures.few c.in-Err.ensures.came
    c.in-Err.ensures.send

pub returns-in-Err-answer_one-clause-queried : goal.returns-in-Err-answer_one-clause-queried
returns-in-Err-answer_one-clause-queried g c = λ J holds.
    let came = (rw c.in-Ok-true.field-0-test at c.in-Ok-true.ensures.came) in
    answering_stopped _ _ J _ _ _ _ _ _ c.requests.auto.answered-end (c.requests.invariant.querying J holds)
    (at_wire (g.W.Wire.requests c.come.new.wire) (g.W.Wire.exchanges c.come.new.wire)
    (g.W.Wire.send_faults c.come.new.wire)) c.come.new.room (omega (arith, c.requests-test.true)) came
    c.in-Ok-true.ensures.send
    (at_wire (g.W.Wire.requests c.answer_one.new.wire) (g.W.Wire.exchanges c.answer_one.new.wire)
    (g.W.Wire.send_faults c.answer_one.new.wire)) (g.O.Sink.written c.answer_one.new.out)
    c.in-Err-answer_one.status c.in-Err-answer_one.ensures.few
    (rw c.as_slice.ensures.value at c.in-Err-answer_one.ensures.answered J holds)

pub requests-preserved : goal.requests-preserved
requests-preserved g c = record {
  querying = λ J holds.
      let came = (rw c.in-Ok-true.field-0-test at c.in-Ok-true.ensures.came) in
      querying_more _ _ J c.args.count _ _ _ _ _ c.requests.auto.answered-end (c.requests.invariant.querying J holds)
      (at_wire (g.W.Wire.requests c.come.new.wire) (g.W.Wire.exchanges c.come.new.wire)
      (g.W.Wire.send_faults c.come.new.wire)) c.come.new.room (omega (arith, c.requests-test.true)) came
      c.in-Ok-true.ensures.send
      (at_wire (g.W.Wire.requests c.answer_one.new.wire) (g.W.Wire.exchanges c.answer_one.new.wire)
      (g.W.Wire.send_faults c.answer_one.new.wire)) (g.O.Sink.written c.answer_one.new.out) _
      (rw c.as_slice.ensures.value at c.in-Ok.ensures.answered J holds);
  wire = c.in-Ok.ensures.wire ∙ c.in-Ok-true.ensures.counts.steady (λ is. absurd cc) ∙ c.requests.invariant.wire;
  sends = omega (arith, c.requests.invariant.sends, c.in-Ok-true.ensures.send, c.in-Ok.ensures.sends);
  output = c.in-Ok.ensures.output.steady (λ is. absurd cc) ∙ c.requests.invariant.output;
}

pub returns-clause-queried : goal.returns-clause-queried
returns-clause-queried g c = λ J holds.
    let all : c.requests.answered ≡ c.args.count = omega (arith, c.requests-test.false, c.requests.auto.answered-end) in
    let wire = at_wire (g.W.Wire.requests c.requests.wire) (g.W.Wire.exchanges c.requests.wire)
    (g.W.Wire.send_faults c.requests.wire) in
    querying_over _ _ J _ _ _ _ _ _ c.requests.auto.answered-end (c.requests.invariant.querying J holds) wire
    (g.O.Sink.written c.end_requests-2.new.out) c.end_requests-2.result
    (inl all) (still_same g.W.Wire.tells wire) refl c.end_requests-2.ensures.few
    (subst (λ (n : ℕ). IsTrue g.O.Sink.tells → Writes c.end_requests-2.result [] (queries_end_line n)
    (g.O.Sink.written c.requests.out) (g.O.Sink.written c.end_requests-2.new.out)) (sym all)
    c.end_requests-2.ensures.written)
