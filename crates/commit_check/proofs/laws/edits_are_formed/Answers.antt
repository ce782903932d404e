use Rattle.commit_check.proofs.Formed.{edits_formed}
use Rattle.commit_check.proofs.laws.edits_are_formed.Goals as goal

pub returns : goal.returns
returns c = edits_formed
