use Rattle.relay_law.proofs.Growing.{fronts_sound}
use Rattle.relay_law.proofs.laws.fronts_are_sound.Goals as goal

pub returns : goal.returns
returns c = fronts_sound
