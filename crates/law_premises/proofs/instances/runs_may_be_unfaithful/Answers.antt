use Rattle.law_premises.proofs.Running.{runs_unfaithful}
use Rattle.law_premises.proofs.instances.runs_may_be_unfaithful.Goals as goal

pub returns : goal.returns
returns c = runs_unfaithful
