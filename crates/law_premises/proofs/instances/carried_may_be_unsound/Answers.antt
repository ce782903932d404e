use Rattle.law_premises.proofs.Fronts.{carried_unsound}
use Rattle.law_premises.proofs.instances.carried_may_be_unsound.Goals as goal

pub returns : goal.returns
returns c = carried_unsound
