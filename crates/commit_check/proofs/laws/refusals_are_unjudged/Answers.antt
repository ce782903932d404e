use Rattle.commit_check.proofs.Unjudged.{first_refusal_unjudged}
use Rattle.commit_check.proofs.laws.refusals_are_unjudged.Goals as goal

pub returns : goal.returns
returns c = first_refusal_unjudged
