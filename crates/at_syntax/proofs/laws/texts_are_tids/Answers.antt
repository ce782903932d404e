use Rattle.at_syntax.proofs.Tids.{texts_known}
use Rattle.at_syntax.proofs.laws.texts_are_tids.Goals as goal

pub returns : goal.returns
returns c = texts_known
