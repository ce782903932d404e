use Rattle.relay_law.proofs.Coming.{come_on}
use Rattle.relay_law.proofs.laws.journals_come_on.Goals as goal

pub returns : goal.returns
returns c = come_on
