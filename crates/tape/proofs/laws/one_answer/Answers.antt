use Rattle.tape.proofs.OneAnswer.{one}
use Rattle.tape.proofs.laws.one_answer.Goals as goal

pub returns : goal.returns
returns c = one
