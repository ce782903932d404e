use Rattle.relay_law.proofs.Replaying.{sound_replays}
use Rattle.relay_law.proofs.laws.sound_replays.Goals as goal

pub returns : goal.returns
returns c = sound_replays
