use Rattle.chain_law.proofs.Making.{synced_given}
use Rattle.chain_law.proofs.laws.synced_are_given.Goals as goal

pub returns : goal.returns
returns c = synced_given
