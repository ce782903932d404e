use Rattle.relay_chain.proofs.Serving.{served_follow}
use Rattle.relay_chain.proofs.laws.served_follow.Goals as goal

pub returns : goal.returns
returns c = served_follow
