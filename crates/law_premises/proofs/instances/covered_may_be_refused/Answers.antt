use Rattle.law_premises.proofs.Judging.{covered_refused}
use Rattle.law_premises.proofs.instances.covered_may_be_refused.Goals as goal

pub returns : goal.returns
returns c = covered_refused
