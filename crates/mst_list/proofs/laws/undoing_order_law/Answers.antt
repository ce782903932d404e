use Rattle.mst_list.proofs.Commute.{any_order}
use Rattle.mst_list.proofs.laws.undoing_order_law.Goals as goal

pub returns : goal.returns
returns c = any_order
