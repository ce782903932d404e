use Rattle.relay_law.proofs.Right.{checks_right}
use Rattle.relay_law.proofs.laws.checks_are_right.Goals as goal

pub returns : goal.returns
returns c = checks_right
