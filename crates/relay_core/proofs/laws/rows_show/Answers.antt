use Rattle.relay_core.proofs.Showing.{rows_show}
use Rattle.relay_core.proofs.laws.rows_show.Goals as goal

pub returns : goal.returns
returns c = rows_show
