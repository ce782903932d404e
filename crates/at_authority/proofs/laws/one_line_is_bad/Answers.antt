use Rattle.at_authority.proofs.Unique.{one_bad_line}
use Rattle.at_authority.proofs.laws.one_line_is_bad.Goals as goal

pub returns : goal.returns
returns c = one_bad_line
