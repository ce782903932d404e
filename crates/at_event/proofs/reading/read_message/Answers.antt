use Rattle.std.proofs.Common.{sym, subst}
use Rattle.at_event.specs.Frames.{ReadsAs}
use Rattle.at_event.proofs.Messages.{headed_message}
use Rattle.at_event.proofs.reading.read_message.Goals as goal

pub returns-in-Some : goal.returns-in-Some
returns-in-Some c = subst (ReadsAs c.read_payload.result) (sym (headed_message c.in-Some.kind c.args.message.now c.in-Some.payload.now c.in-Some.ensures)) c.read_payload.ensures
