use Rattle.law_premises.proofs.Deciding.{decided_ill_formed}
use Rattle.law_premises.proofs.instances.decided_may_be_ill_formed.Goals as goal

pub returns : goal.returns
returns c = decided_ill_formed
