use Rattle.law_premises.proofs.Coming.{unfounded}
use Rattle.law_premises.proofs.instances.unfounded_come_on.Goals as goal

pub returns : goal.returns
returns c = unfounded
