use Rattle.mst_law.proofs.OneView.{one_view}
use Rattle.mst_law.proofs.laws.one_view_law.Goals as goal

pub returns : goal.returns
returns c = λ B r F G v w. one_view B r F G v w
