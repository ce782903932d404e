use Rattle.commit_check.proofs.Decided.{link_decided}
use Rattle.commit_check.proofs.laws.links_are_decided.Goals as goal

pub returns : goal.returns
returns c = link_decided
