use Rattle.law_premises.proofs.Coming.{journals_others}
use Rattle.law_premises.proofs.instances.journals_may_be_others.Goals as goal

pub returns : goal.returns
returns c = journals_others
