use Rattle.json_text.proofs.Written.{text_is}
use Rattle.json_text.proofs.laws.texts_are_written.Goals as goal

pub returns : goal.returns
returns c = text_is
