use Rattle.law_premises.proofs.Forming.{made_ill_formed}
use Rattle.law_premises.proofs.instances.made_may_be_ill_formed.Goals as goal

pub returns : goal.returns
returns c = made_ill_formed
