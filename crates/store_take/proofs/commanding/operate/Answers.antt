use Rattle.std.proofs.Common.{◌≡◌, ◌∙◌, Err, ap}
use Rattle.relay_step.specs.declared.fault.StepFault.{StepFault}
use Rattle.store_take.specs.Faults.{of_step}
use Rattle.relay_store.specs.declared.fault.StoreFault.{StoreFault}
use Rattle.store_take.proofs.CommandDone.{running_operating}
use Rattle.store_take.proofs.commanding.operate.Goals as goal

pub returns-in-Ok-operate-clause-clock : goal.returns-in-Ok-operate-clause-clock
returns-in-Ok-operate-clause-clock g c = λ is. absurd (c.run_command.ensures.few StoreFault.Clock is)

pub returns-in-Ok-operate-clause-seq_end : goal.returns-in-Ok-operate-clause-seq_end
returns-in-Ok-operate-clause-seq_end g c = λ is. absurd (c.run_command.ensures.few StoreFault.SeqEnd is)

pub returns-in-Ok-operate-clause-few : goal.returns-in-Ok-operate-clause-few
returns-in-Ok-operate-clause-few g c = λ f is. running_operating f (c.run_command.ensures.few f is)

pub returns-in-Ok-operate-clause-clock_steady : goal.returns-in-Ok-operate-clause-clock_steady
returns-in-Ok-operate-clause-clock_steady g c = λ other. c.in-Ok-operate.ensures.steady (λ err. absurd cc)

pub returns-in-Err-operate-clause-clock_steady : goal.returns-in-Err-operate-clause-clock_steady
returns-in-Err-operate-clause-clock_steady g c = λ other. c.in-Err-operate.ensures.steady (λ is.
    let same : c.in-Err-operate.fault ≡ StepFault.Clock = cc in
    other (ap Err (c.of_step.ensures ∙ ap of_step same)))
