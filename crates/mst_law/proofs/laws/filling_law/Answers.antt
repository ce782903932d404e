use Rattle.mst_law.proofs.FillingLaw.{filling_law}
use Rattle.mst_law.proofs.laws.filling_law.Goals as goal

pub returns : goal.returns
returns c = λ U s w m e d. record { is_map = m; filled = filling_law U s w m e d }
