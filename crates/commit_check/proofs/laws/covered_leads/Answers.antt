use Rattle.commit_check.proofs.Steps.{complete_by}
use Rattle.commit_check.proofs.laws.covered_leads.Goals as goal

pub returns : goal.returns
returns c = complete_by
