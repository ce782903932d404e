use Rattle.at_event.proofs.Messages.{frames_renumbered}
use Rattle.at_event.proofs.laws.frames_are_renumbered.Goals as goal

pub returns : goal.returns
returns c = frames_renumbered
