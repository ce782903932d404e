use Rattle.commit_check.proofs.Decided.{commit_decided}
use Rattle.commit_check.proofs.laws.commits_are_decided.Goals as goal

pub returns : goal.returns
returns c = commit_decided
