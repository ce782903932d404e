use Rattle.relay_law.proofs.Operating.{synced_formed}
use Rattle.relay_law.proofs.laws.synced_rows_are_formed.Goals as goal

pub returns : goal.returns
returns c = synced_formed
