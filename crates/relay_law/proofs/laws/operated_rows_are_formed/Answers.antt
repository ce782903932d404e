use Rattle.relay_law.proofs.Operating.{operated_formed}
use Rattle.relay_law.proofs.laws.operated_rows_are_formed.Goals as goal

pub returns : goal.returns
returns c = operated_formed
