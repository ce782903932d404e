use Rattle.at_cid.proofs.ShortTexts.{empty}
use Rattle.at_cid.proofs.short_text.ShortText.new.Goals as goal

pub invariant_of-result : goal.invariant_of-result
invariant_of-result c = empty _
