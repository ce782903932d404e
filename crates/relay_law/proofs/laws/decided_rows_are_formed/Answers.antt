use Rattle.relay_law.proofs.Decided.{decided_formed}
use Rattle.relay_law.proofs.laws.decided_rows_are_formed.Goals as goal

pub returns : goal.returns
returns c = decided_formed
