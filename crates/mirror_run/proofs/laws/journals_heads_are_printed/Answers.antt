use Rattle.mirror_run.proofs.ByReading.{heads_told}
use Rattle.mirror_run.proofs.laws.journals_heads_are_printed.Goals as goal

pub returns : goal.returns
returns c = heads_told
