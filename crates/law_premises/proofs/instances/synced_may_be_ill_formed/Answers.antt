use Rattle.law_premises.proofs.Speaking.{synced_ill_formed}
use Rattle.law_premises.proofs.instances.synced_may_be_ill_formed.Goals as goal

pub returns : goal.returns
returns c = synced_ill_formed
