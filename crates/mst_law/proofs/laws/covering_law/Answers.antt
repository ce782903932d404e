use Rattle.mst_law.proofs.Links.{covering}
use Rattle.mst_law.proofs.laws.covering_law.Goals as goal

pub returns : goal.returns
returns c = covering
