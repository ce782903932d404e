use Rattle.relay_row.proofs.WellFormed.{row_is}
use Rattle.relay_row.proofs.laws.rows_are_tested.Goals as goal

pub returns : goal.returns
returns c = row_is
