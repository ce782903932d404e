use Rattle.relay_law.proofs.Deciding.{made_formed}
use Rattle.relay_law.proofs.laws.made_rows_are_formed.Goals as goal

pub returns : goal.returns
returns c = made_formed
