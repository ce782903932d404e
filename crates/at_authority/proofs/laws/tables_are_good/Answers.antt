use Rattle.at_authority.proofs.Unique.{no_bad_line}
use Rattle.at_authority.proofs.laws.tables_are_good.Goals as goal

pub returns : goal.returns
returns c = no_bad_line
