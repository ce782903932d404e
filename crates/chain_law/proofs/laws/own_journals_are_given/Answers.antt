use Rattle.chain_law.proofs.Journals.{journals_given}
use Rattle.chain_law.proofs.laws.own_journals_are_given.Goals as goal

pub returns : goal.returns
returns c = journals_given
