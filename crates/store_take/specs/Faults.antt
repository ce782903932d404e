-- Faults of steps as the store's (own).
use Rattle.relay_step.specs.declared.fault.StepFault.{StepFault}
use Rattle.relay_store.specs.declared.fault.StoreFault.{StoreFault}

abbrev pub of_step : StepFault → StoreFault
of_step StepFault.SeqEnd = StoreFault.SeqEnd
of_step StepFault.Authority = StoreFault.Authority
of_step StepFault.Repos = StoreFault.Repos
of_step StepFault.Clock = StoreFault.Clock
of_step StepFault.Memory = StoreFault.Memory
