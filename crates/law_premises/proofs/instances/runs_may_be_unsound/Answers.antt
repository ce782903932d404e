use Rattle.law_premises.proofs.Running.{runs_unsound}
use Rattle.law_premises.proofs.instances.runs_may_be_unsound.Goals as goal

pub returns : goal.returns
returns c = runs_unsound
