use Rattle.relay_law.proofs.Agreeing.{merges_agree}
use Rattle.relay_law.proofs.laws.merges_agree.Goals as goal

pub returns : goal.returns
returns c = merges_agree
