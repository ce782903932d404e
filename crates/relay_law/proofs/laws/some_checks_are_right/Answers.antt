use Rattle.relay_law.proofs.Choosing.{some_right}
use Rattle.relay_law.proofs.laws.some_checks_are_right.Goals as goal

pub returns : goal.returns
returns c = some_right
