use Rattle.mirror_run.proofs.ByReading.{short_taken}
use Rattle.mirror_run.proofs.laws.short_streams_are_taken.Goals as goal

pub returns : goal.returns
returns c = short_taken
