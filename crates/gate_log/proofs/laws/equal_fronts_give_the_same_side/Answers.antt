use Rattle.gate_log.proofs.OneSide.{same_side_of_first, same_side_of_second}
use Rattle.gate_log.proofs.laws.equal_fronts_give_the_same_side.Goals as goal

pub returns-clause-one : goal.returns-clause-one
returns-clause-one c = same_side_of_first

pub returns-clause-two : goal.returns-clause-two
returns-clause-two c = same_side_of_second
