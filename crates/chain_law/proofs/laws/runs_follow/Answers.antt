use Rattle.chain_law.proofs.Again.{runs_follow}
use Rattle.chain_law.proofs.laws.runs_follow.Goals as goal

pub returns : goal.returns
returns c = runs_follow
