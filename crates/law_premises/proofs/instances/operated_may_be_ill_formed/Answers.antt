use Rattle.law_premises.proofs.Forming.{operated_ill_formed}
use Rattle.law_premises.proofs.instances.operated_may_be_ill_formed.Goals as goal

pub returns : goal.returns
returns c = operated_ill_formed
