use Rattle.relay_core.proofs.Running.{worlds_run}
use Rattle.relay_core.proofs.laws.worlds_run.Goals as goal

pub returns : goal.returns
returns c = worlds_run
