use Rattle.at_authority.proofs.Lines.{homes_untold}
use Rattle.at_authority.proofs.laws.other_lines_name_none.Goals as goal

pub returns : goal.returns
returns c = homes_untold
