use Rattle.relay_law.proofs.Sounding.{runs_sound}
use Rattle.relay_law.proofs.laws.runs_stay_sound.Goals as goal

pub returns : goal.returns
returns c = runs_sound
