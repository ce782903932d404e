use Rattle.std.proofs.Common.{◌≡◌, ℕ, Option, Some, arith, rules, subst}
use Rattle.event_window.specs.Held.{IsNext}
use Rattle.backfill.proofs.Above.{next_is_above}
use Rattle.read_run.proofs.writing.next_above.Goals as goal

pub returns-in-Ok-clause-next : goal.returns-in-Ok-clause-next
returns-in-Ok-clause-next g c = λ told held holds.
    let is : c.in-Ok.field-0 ≡ Some c.in-Ok-Some.number = search rules in
    let next = subst (λ (found : Option ℕ). IsNext c.args.seq held.shown found c.next_after.new.room) is
    (c.in-Ok.ensures.next told held holds) in
    let above = next_is_above c.args.seq held.shown c.in-Ok-Some.number c.next_after.new.room next in
    absurd (omega (arith, above))
