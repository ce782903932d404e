use Rattle.at_authority.proofs.Runs.{fell}
use Rattle.at_authority.proofs.laws.calls_fell.Goals as goal

pub returns : goal.returns
returns c = fell
