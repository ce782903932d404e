use Rattle.std.proofs.Common.{refl}
use Rattle.at_car.proofs.Standings.{tidied}
use Rattle.at_car.proofs.advancing.tidy.Goals as goal

pub returns-clause-stands : goal.returns-clause-stands
returns-clause-stands c = λ picks bytes h. tidied picks bytes c.args.progress.now _ refl refl refl c.tidy.ensures refl refl h
