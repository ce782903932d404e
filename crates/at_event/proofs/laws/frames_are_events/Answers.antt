use Rattle.at_event.proofs.Formed.{frames_events}
use Rattle.at_event.proofs.laws.frames_are_events.Goals as goal

pub returns : goal.returns
returns c = frames_events
