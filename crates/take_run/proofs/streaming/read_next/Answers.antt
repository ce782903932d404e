use Rattle.std.proofs.Common.{◌≡◌, ◌∙◌, ℕ, Bool, true, List, inl, inr, sym, subst}
use Rattle.at_syntax.specs.Host.{is_host}
use Rattle.relay_io.specs.Messages.{Gives}
use Rattle.take_run.proofs.streaming.read_next.Goals as goal

pub returns-in-Ok-true-clause-next : goal.returns-in-Ok-true-clause-next
returns-in-Ok-true-clause-next g c = (
  c.in-Ok.ensures,
  record {
    names = subst (λ (h : List ℕ). is_host h ≡ true) (sym c.in-Ok.ensures) c.requires.host;
    short = c.in-Ok-true.ensures.within c.in-Ok-true.field-0-test;
  },
  c.as_slice.ensures.bytes,
  sym c.has_ended.ensures ∙ c.if-has_ended.false,
  λ given is.
      let next = c.in-Ok-true.ensures.given given is in
      (next.0, next.1, subst (λ (b : Bool). Gives b c.next_message.new.room given next.0) c.in-Ok-true.field-0-test next.2),
)

pub returns-in-Ok-false-clause-next : goal.returns-in-Ok-false-clause-next
returns-in-Ok-false-clause-next g c = λ given is.
    let next = c.in-Ok-false.ensures.given given is in
    let none = subst (λ (b : Bool). Gives b c.next_message.new.room given next.0) c.in-Ok-false.field-0-test next.2 in
    (subst (g.S.Stream.leaves c.next_message.new.self) (none.1 ∙ sym none.0) next.1, inl none.0)

pub returns-then-has_ended-clause-next : goal.returns-then-has_ended-clause-next
returns-then-has_ended-clause-next g c = λ given is. (is, inr (sym c.has_ended.ensures ∙ c.if-has_ended.true))
