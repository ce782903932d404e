use Rattle.law_premises.proofs.Running.{rows_of_lost}
use Rattle.law_premises.proofs.instances.rows_may_be_of_lost.Goals as goal

pub returns : goal.returns
returns c = rows_of_lost
