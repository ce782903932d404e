use Rattle.tape.proofs.Lawful.{one_thing}
use Rattle.tape.proofs.laws.one_thing_is_shown.Goals as goal

pub returns : goal.returns
returns c = one_thing
