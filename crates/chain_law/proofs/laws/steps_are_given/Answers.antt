use Rattle.chain_law.proofs.Making.{steps_given}
use Rattle.chain_law.proofs.laws.steps_are_given.Goals as goal

pub returns : goal.returns
returns c = steps_given
