use Rattle.tape.proofs.Lawful.{cut_records}
use Rattle.tape.proofs.laws.cut_records_are_cut.Goals as goal

pub returns : goal.returns
returns c = cut_records
