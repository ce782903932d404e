use Rattle.relay_law.proofs.Own.{operators_faithful}
use Rattle.relay_law.proofs.laws.operators_are_faithful.Goals as goal

pub returns : goal.returns
returns c = operators_faithful
