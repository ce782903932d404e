use Rattle.std.proofs.Common.{◌≡◌, ap, sym, ◌∙◌}
use Rattle.at_event.specs.Seen.{Seen}
use Rattle.at_event.specs.declared.event.Body.{Body}
use Rattle.at_event.specs.declared.event.CommitEvent.{CommitEvent}
use Rattle.relay_step.proofs.Linking.{linked_by, read_commit, unlinked_by}
use Rattle.relay_step.proofs.reading.follow.Goals as goal

pub returns-in-Ok-clause-answer : goal.returns-in-Ok-clause-answer
returns-in-Ok-clause-answer c =
    let body : c.args.event.now.body ≡ Body.Commit c.get.result.now = sym (ap (λ (e : Seen). e.body) c.event.view_is) ∙ c.in-Commit-Commit.is-0 ∙ ap (λ (k : CommitEvent). Body.Commit k) (sym c.get.ensures) in
    let opened = read_commit c.args.event.now.body c.args.read.now c.get.result.now c.in-Commit-Commit.opened body c.in-Commit-Commit.is-1 c.requires.read in
    linked_by c.args.event.now c.get.result.now c.in-Commit-Commit.opened c.args.repo.now c.expect_of.result c.ghost_event.ensures body opened c.expect_of.ensures c.in-Ok.ensures.exact

pub returns-in-Err-Refused-clause-answer : goal.returns-in-Err-Refused-clause-answer
returns-in-Err-Refused-clause-answer c =
    let body : c.args.event.now.body ≡ Body.Commit c.get.result.now = sym (ap (λ (e : Seen). e.body) c.event.view_is) ∙ c.in-Commit-Commit.is-0 ∙ ap (λ (k : CommitEvent). Body.Commit k) (sym c.get.ensures) in
    let opened = read_commit c.args.event.now.body c.args.read.now c.get.result.now c.in-Commit-Commit.opened body c.in-Commit-Commit.is-1 c.requires.read in
    unlinked_by c.args.event.now c.get.result.now c.in-Commit-Commit.opened c.args.repo.now c.expect_of.result c.in-Err-Refused.refusal c.ghost_event.ensures body opened c.expect_of.ensures
    (record {
      refused = rw c.in-Err-Refused.field-0-is at c.in-Err-Refused.ensures.refused;
      only = rw c.in-Err-Refused.field-0-is at c.in-Err-Refused.ensures.only;
      exact = rw c.in-Err-Refused.field-0-is at c.in-Err-Refused.ensures.exact;
    })
