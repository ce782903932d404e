use Rattle.commit_check.proofs.Steps.{sound_by}
use Rattle.commit_check.proofs.laws.leading_replays.Goals as goal

pub returns : goal.returns
returns c = sound_by
