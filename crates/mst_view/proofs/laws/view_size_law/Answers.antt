use Rattle.mst_view.proofs.Sizes.{view_size}
use Rattle.mst_view.proofs.laws.view_size_law.Goals as goal

pub returns : goal.returns
returns c = view_size
