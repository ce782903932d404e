use Rattle.law_premises.proofs.Disagreeing.{merges_disagree}
use Rattle.law_premises.proofs.instances.merges_may_disagree.Goals as goal

pub returns : goal.returns
returns c = merges_disagree
