use Rattle.at_syntax.proofs.Tids.{written_read}
use Rattle.at_syntax.proofs.laws.written_tids_are_read.Goals as goal

pub returns : goal.returns
returns c = written_read
