use Rattle.law_premises.proofs.Speaking.{operators_unfaithful}
use Rattle.law_premises.proofs.instances.operators_may_be_unfaithful.Goals as goal

pub returns : goal.returns
returns c = operators_unfaithful
