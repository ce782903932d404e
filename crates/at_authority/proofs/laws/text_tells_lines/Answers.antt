use Rattle.at_authority.proofs.Unique.{one_table}
use Rattle.at_authority.proofs.laws.text_tells_lines.Goals as goal

pub returns : goal.returns
returns c = one_table
