use Rattle.relay_law.proofs.Sent.{stores_sound}
use Rattle.relay_law.proofs.laws.stores_stay_sound.Goals as goal

pub returns : goal.returns
returns c = stores_sound
