use Rattle.mst_node.proofs.Filling.{one_root}
use Rattle.mst_law.proofs.laws.one_root_law.Goals as goal

pub returns : goal.returns
returns c = λ F s w f. one_root F s w f.filled
