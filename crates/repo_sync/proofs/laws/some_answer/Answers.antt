use Rattle.repo_sync.proofs.SomeAnswer.{some_answer}
use Rattle.repo_sync.proofs.laws.some_answer.Goals as goal

pub returns : goal.returns
returns c = some_answer
