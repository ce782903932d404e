use Rattle.cut_law.proofs.Needing.{wanted}
use Rattle.cut_law.proofs.laws.premises_are_needed.Goals as goal

pub returns : goal.returns
returns c = wanted
