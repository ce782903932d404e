use Rattle.at_authority.proofs.Runs.{part}
use Rattle.at_authority.proofs.laws.calls_part.Goals as goal

pub returns : goal.returns
returns c = part
