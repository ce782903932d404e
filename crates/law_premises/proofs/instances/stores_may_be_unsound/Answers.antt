use Rattle.law_premises.proofs.Storing.{stores_unsound}
use Rattle.law_premises.proofs.instances.stores_may_be_unsound.Goals as goal

pub returns : goal.returns
returns c = stores_unsound
