use Rattle.relay_step.proofs.Steps.{steps_join}
use Rattle.relay_step.proofs.laws.steps_join.Goals as goal

pub returns : goal.returns
returns c = steps_join
