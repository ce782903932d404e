use Rattle.at_authority.proofs.Runs.{ranks}
use Rattle.at_authority.proofs.laws.answers_have_ranks.Goals as goal

pub returns : goal.returns
returns c = ranks
