use Rattle.chain_law.proofs.Again.{go_on}
use Rattle.chain_law.proofs.laws.relays_go_on.Goals as goal

pub returns : goal.returns
returns c = go_on
