use Rattle.mst_list.proofs.Seen.{edit_law}
use Rattle.mst_list.proofs.laws.edit_law.Goals as goal

pub returns : goal.returns
returns c = edit_law
