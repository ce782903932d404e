use Rattle.chain_law.proofs.Trusting.{steps_show}
use Rattle.chain_law.proofs.laws.trusting_steps_show.Goals as goal

pub returns : goal.returns
returns c = steps_show
