use Rattle.at_authority.proofs.Lines.{homes_told}
use Rattle.at_authority.proofs.laws.home_lines_name_homes.Goals as goal

pub returns : goal.returns
returns c = homes_told
