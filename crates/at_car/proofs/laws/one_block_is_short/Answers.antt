use Rattle.at_car.proofs.Lengths.{car_short}
use Rattle.at_car.proofs.laws.one_block_is_short.Goals as goal

pub returns : goal.returns
returns c = car_short
