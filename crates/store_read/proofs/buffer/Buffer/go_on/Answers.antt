use Rattle.std.proofs.Common.{◌≡◌, ◌∙◌, ℕ, arith, ap, drop, subst, sym}
use Rattle.row_codec.specs.Bodies.{encoded_rows}
use Rattle.store_read.specs.Events.{BufferState}
use Rattle.store_read.proofs.Buffering.{formed_behind, one_more, past_all}
use Rattle.store_read.proofs.buffer.Buffer.go_on.Goals as goal

pub returns-then-not-step-clause-rows : goal.returns-then-not-step-clause-rows
returns-then-not-step-clause-rows c = λ rows formed is.
    let now = c.rows.invariant.2 rows formed is in
    let left = c.step.ensures.rows (drop c.rows.self.index rows) (formed_behind c.rows.self.index rows formed) now in (
      subst (λ (p : BufferState). p.left ≡ encoded_rows (drop p.index rows)) (sym (c.step.ensures.same c.if-not-step.true)) now,
      λ no. omega (arith, past_all c.rows.self.index rows (left.1 c.if-not-step.true), c.rows.invariant.1),
    )

pub rows-preserved : goal.rows-preserved
rows-preserved c = (
  c.step.ensures.place ∙ c.rows.invariant.0,
  omega (arith, c.step.ensures.next c.if-not-step.false, c.rows-test.true, ap (λ (p : BufferState). p.index) c.self.view_is),
  λ rows formed is.
      let left = c.step.ensures.rows (drop c.rows.self.index rows) (formed_behind c.rows.self.index rows formed) (c.rows.invariant.2 rows formed is) in
      left.0 c.if-not-step.false ∙ ap encoded_rows (one_more c.rows.self.index rows ∙ ap (λ (i : ℕ). drop i rows) (sym (c.step.ensures.next c.if-not-step.false))),
)
