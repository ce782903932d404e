use Rattle.relay_core.proofs.Agreeing.{next_decides}
use Rattle.relay_core.proofs.laws.next_decides.Goals as goal

pub returns : goal.returns
returns c = next_decides
