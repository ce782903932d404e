use Rattle.relay_law.proofs.Carrying.{carried_sound}
use Rattle.relay_law.proofs.laws.carried_stay_sound.Goals as goal

pub returns : goal.returns
returns c = carried_sound
