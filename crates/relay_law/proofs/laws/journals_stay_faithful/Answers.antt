use Rattle.relay_law.proofs.Staying.{stay_faithful}
use Rattle.relay_law.proofs.laws.journals_stay_faithful.Goals as goal

pub returns : goal.returns
returns c = stay_faithful
