use Rattle.std.proofs.Common.{◌≡◌, ◌∙◌, Err, ap}
use Rattle.relay_step.specs.declared.fault.StepFault.{StepFault}
use Rattle.store_take.specs.Faults.{of_step}
use Rattle.relay_store.specs.declared.fault.StoreFault.{StoreFault}
use Rattle.store_take.proofs.commanding.sync_now.Goals as goal

pub returns-in-Ok-sync_now-clause-clock : goal.returns-in-Ok-sync_now-clause-clock
returns-in-Ok-sync_now-clause-clock g c = λ is. absurd (c.run_command.ensures.few StoreFault.Clock is)

pub returns-in-Ok-sync_now-clause-repos : goal.returns-in-Ok-sync_now-clause-repos
returns-in-Ok-sync_now-clause-repos g c = λ is. absurd (c.run_command.ensures.few StoreFault.Repos is)

pub returns-in-Ok-sync_now-clause-spent : goal.returns-in-Ok-sync_now-clause-spent
returns-in-Ok-sync_now-clause-spent g c = λ is. absurd (c.run_command.ensures.few StoreFault.Authority is)

pub returns-in-Ok-sync_now-clause-seq_end : goal.returns-in-Ok-sync_now-clause-seq_end
returns-in-Ok-sync_now-clause-seq_end g c = λ is. absurd (c.run_command.ensures.few StoreFault.SeqEnd is)

pub returns-in-Ok-sync_now-clause-clock_steady : goal.returns-in-Ok-sync_now-clause-clock_steady
returns-in-Ok-sync_now-clause-clock_steady g c = λ other. c.in-Ok-sync_now.ensures.clock_steady (λ err. absurd cc)

pub returns-in-Err-sync_now-clause-clock_steady : goal.returns-in-Err-sync_now-clause-clock_steady
returns-in-Err-sync_now-clause-clock_steady g c = λ other. c.in-Err-sync_now.ensures.clock_steady (λ is.
    let same : c.in-Err-sync_now.fault ≡ StepFault.Clock = cc in
    other (ap Err (c.of_step.ensures ∙ ap of_step same)))

pub returns-in-Ok-sync_now-clause-repos_steady : goal.returns-in-Ok-sync_now-clause-repos_steady
returns-in-Ok-sync_now-clause-repos_steady g c = λ other. c.in-Ok-sync_now.ensures.repos_steady (λ err. absurd cc)

pub returns-in-Err-sync_now-clause-repos_steady : goal.returns-in-Err-sync_now-clause-repos_steady
returns-in-Err-sync_now-clause-repos_steady g c = λ other. c.in-Err-sync_now.ensures.repos_steady (λ is.
    let same : c.in-Err-sync_now.fault ≡ StepFault.Repos = cc in
    other (ap Err (c.of_step.ensures ∙ ap of_step same)))

pub returns-in-Ok-sync_now-clause-unspent : goal.returns-in-Ok-sync_now-clause-unspent
returns-in-Ok-sync_now-clause-unspent g c = λ other. c.in-Ok-sync_now.ensures.unspent (λ err. absurd cc)

pub returns-in-Err-sync_now-clause-unspent : goal.returns-in-Err-sync_now-clause-unspent
returns-in-Err-sync_now-clause-unspent g c = λ other. c.in-Err-sync_now.ensures.unspent (λ is.
    let same : c.in-Err-sync_now.fault ≡ StepFault.Authority = cc in
    other (ap Err (c.of_step.ensures ∙ ap of_step same)))
