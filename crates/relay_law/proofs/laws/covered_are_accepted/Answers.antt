use Rattle.relay_law.proofs.Completing.{covered_accepted}
use Rattle.relay_law.proofs.laws.covered_are_accepted.Goals as goal

pub returns : goal.returns
returns c = covered_accepted
