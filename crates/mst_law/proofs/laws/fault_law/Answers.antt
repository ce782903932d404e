use Rattle.mst_law.proofs.NoFault.{no_view}
use Rattle.mst_law.proofs.laws.fault_law.Goals as goal

pub returns : goal.returns
returns c = λ B r f F bad view. no_view B r f F view bad
