use Rattle.at_event.proofs.Messages.{payloads_maps}
use Rattle.at_event.proofs.laws.payloads_are_maps.Goals as goal

pub returns : goal.returns
returns c = payloads_maps
