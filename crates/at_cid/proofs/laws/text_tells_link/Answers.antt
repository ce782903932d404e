use Rattle.at_cid.proofs.OneText.{text_tells}
use Rattle.at_cid.proofs.laws.text_tells_link.Goals as goal

pub returns : goal.returns
returns c = text_tells
