use Rattle.relay_law.proofs.Known.{runs_known}
use Rattle.relay_law.proofs.laws.runs_follow_known.Goals as goal

pub returns : goal.returns
returns c = runs_known
