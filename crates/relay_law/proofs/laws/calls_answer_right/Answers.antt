use Rattle.relay_law.proofs.Answered.{calls_right}
use Rattle.relay_law.proofs.laws.calls_answer_right.Goals as goal

pub returns : goal.returns
returns c = calls_right
