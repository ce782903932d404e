use Rattle.at_authority.proofs.Runs.{join}
use Rattle.at_authority.proofs.laws.calls_join.Goals as goal

pub returns : goal.returns
returns c = join
