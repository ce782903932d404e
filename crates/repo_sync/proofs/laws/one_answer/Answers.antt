use Rattle.repo_sync.proofs.OneAnswer.{one_answer}
use Rattle.repo_sync.proofs.laws.one_answer.Goals as goal

pub returns : goal.returns
returns c = one_answer
