use Rattle.std.proofs.Common.{rules, ◌≡◌, ◌∙◌, ℕ, Option, Some, ap, arith, sym}
use Rattle.std.specs.Prelude.{option_map}
use Rattle.row_peek.specs.Peeking.{Seen, event_at}
use Rattle.store_read.specs.Events.{BufferState}
use Rattle.store_read.proofs.finding.copy_shown.Goals as goal

pub returns-then-not-is_shown-clause-kept : goal.returns-then-not-is_shown-clause-kept
returns-then-not-is_shown-clause-kept c =
    let number : c.in-Some.peeked.seq ≡ c.args.place.seq = omega (arith, c.if-peeked-place.false) in
    record {
      message = c.in-Some.peeked.message.now;
      seen = ap (λ (b : BufferState). event_at b.left) (sym c.ends_row.ensures.same) ∙ sym (ap (λ (o : Option Seen). option_map (λ (s : Seen). s.1.1) o) c.in-Some.ensures.found) ∙ ap (λ (n : ℕ). Some (n, c.in-Some.peeked.message.now)) number;
      ends = c.ends_row.ensures.ends c.if-not-ends_row.false;
      given = λ is. absurd cc;
    }

pub returns-clause-kept : goal.returns-clause-kept
returns-clause-kept c =
    let number : c.in-Some.peeked.seq ≡ c.args.place.seq = omega (arith, c.if-peeked-place.false) in
    let copied : c.extend.new.self ≡ c.in-Some.peeked.message.now = search rules in
    record {
      message = c.in-Some.peeked.message.now;
      seen = ap (λ (b : BufferState). event_at b.left) (sym c.ends_row.ensures.same) ∙ sym (ap (λ (o : Option Seen). option_map (λ (s : Seen). s.1.1) o) c.in-Some.ensures.found) ∙ ap (λ (n : ℕ). Some (n, c.in-Some.peeked.message.now)) number;
      ends = c.ends_row.ensures.ends c.if-not-ends_row.false;
      given = λ is. copied;
    }
