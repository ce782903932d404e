use Rattle.relay_law.proofs.Giving.{runs_faithful}
use Rattle.relay_law.proofs.laws.runs_are_faithful.Goals as goal

pub returns : goal.returns
returns c = runs_faithful
