use Rattle.relay_step.proofs.Steps.{steps_run}
use Rattle.relay_step.proofs.laws.steps_run.Goals as goal

pub returns : goal.returns
returns c = steps_run
