use Rattle.relay_law.proofs.Sent.{sent_events}
use Rattle.relay_law.proofs.laws.sent_are_events.Goals as goal

pub returns : goal.returns
returns c = sent_events
