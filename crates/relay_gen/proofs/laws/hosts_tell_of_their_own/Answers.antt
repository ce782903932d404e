use Rattle.relay_gen.proofs.Honest.{own_messages}
use Rattle.relay_gen.proofs.laws.hosts_tell_of_their_own.Goals as goal

pub returns : goal.returns
returns c = own_messages
