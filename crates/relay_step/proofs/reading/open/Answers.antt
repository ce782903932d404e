use Rattle.std.proofs.Common.{◌≡◌, Ok, ap, sym, subst, ◌∙◌}
use Rattle.at_event.specs.declared.event.Body.{Body}
use Rattle.at_event.specs.declared.event.CommitEvent.{CommitEvent}
use Rattle.relay_law.specs.Formed.{IsOpenedAs}
use Rattle.relay_step.proofs.Opened.{commit_head}
use Rattle.relay_step.proofs.reading.open.Goals as goal

pub returns-in-Ok-clause-answer : goal.returns-in-Ok-clause-answer
returns-in-Ok-clause-answer c =
    let body : c.args.body.now ≡ Body.Commit c.get.result.now = c.in-Commit.is ∙ ap (λ (k : CommitEvent). Body.Commit k) (sym c.get.ensures) in
    let P : Body → Type 0 = λ b. IsOpenedAs b c.args.last (Ok c.in-Ok.opened.head) in
    subst P (sym body) (c.in-Ok.ensures.shown, commit_head c.get.result.now c.args.last c.in-Ok.opened c.in-Ok.ensures.shown c.in-Ok.ensures.opened)
