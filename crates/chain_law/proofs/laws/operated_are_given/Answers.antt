use Rattle.chain_law.proofs.Making.{operated_given}
use Rattle.chain_law.proofs.laws.operated_are_given.Goals as goal

pub returns : goal.returns
returns c = operated_given
