use Rattle.relay_core.proofs.Accepting.{ready_decides}
use Rattle.relay_core.proofs.laws.ready_decides.Goals as goal

pub returns : goal.returns
returns c = ready_decides
