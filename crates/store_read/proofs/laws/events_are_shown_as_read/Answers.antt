use Rattle.store_read.proofs.ShownMessages.{shown_as_read}
use Rattle.store_read.proofs.laws.events_are_shown_as_read.Goals as goal

pub returns : goal.returns
returns c = shown_as_read
