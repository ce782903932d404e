use Rattle.mst_law.proofs.Links.{complete_link}
use Rattle.mst_law.proofs.laws.complete_link_law.Goals as goal

pub returns : goal.returns
returns c = complete_link
