use Rattle.mirror_run.proofs.ByReading.{journals_mirrored}
use Rattle.mirror_run.proofs.laws.journals_are_mirrored.Goals as goal

pub returns : goal.returns
returns c = journals_mirrored
