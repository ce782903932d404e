use Rattle.mst_list.proofs.Seen.{visible_law}
use Rattle.mst_list.proofs.laws.visible_law.Goals as goal

pub returns : goal.returns
returns c = visible_law
