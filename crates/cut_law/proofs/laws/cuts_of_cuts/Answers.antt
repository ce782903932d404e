use Rattle.cut_law.proofs.Again.{cut_again}
use Rattle.cut_law.proofs.laws.cuts_of_cuts.Goals as goal

pub returns : goal.returns
returns c = cut_again
