use Rattle.at_event.proofs.Formed.{events_formed}
use Rattle.at_event.proofs.laws.events_are_formed.Goals as goal

pub returns : goal.returns
returns c = events_formed
