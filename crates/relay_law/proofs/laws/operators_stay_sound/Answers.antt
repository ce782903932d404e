use Rattle.relay_law.proofs.Sounding.{operators_sound}
use Rattle.relay_law.proofs.laws.operators_stay_sound.Goals as goal

pub returns : goal.returns
returns c = operators_sound
