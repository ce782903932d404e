use Rattle.mirror_law.proofs.Written.{written_sent}
use Rattle.mirror_law.proofs.laws.written_are_sent.Goals as goal

pub returns : goal.returns
returns c = written_sent
