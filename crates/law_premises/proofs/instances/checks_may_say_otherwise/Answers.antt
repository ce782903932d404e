use Rattle.law_premises.proofs.Judging.{checks_otherwise}
use Rattle.law_premises.proofs.instances.checks_may_say_otherwise.Goals as goal

pub returns : goal.returns
returns c = checks_otherwise
