use Rattle.relay_store.proofs.Images.{no_journal}
use Rattle.relay_store.proofs.laws.faults_are_no_journals.Goals as goal

pub returns : goal.returns
returns c = no_journal
