use Rattle.relay_store.proofs.Images.{same_pair_journal}
use Rattle.relay_store.proofs.laws.pairs_have_one_journal.Goals as goal

pub returns : goal.returns
returns c = same_pair_journal
