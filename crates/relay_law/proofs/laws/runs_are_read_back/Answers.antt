use Rattle.relay_law.proofs.Reading.{runs_read_back}
use Rattle.relay_law.proofs.laws.runs_are_read_back.Goals as goal

pub returns : goal.returns
returns c = runs_read_back
