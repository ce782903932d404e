use Rattle.commit_check.proofs.Decided.{step_decided}
use Rattle.commit_check.proofs.laws.steps_are_decided.Goals as goal

pub returns : goal.returns
returns c = step_decided
