use Rattle.at_syntax.proofs.Tids.{digits_compare}
use Rattle.at_syntax.proofs.laws.tids_order_as_texts.Goals as goal

pub returns : goal.returns
returns c = digits_compare
