use Rattle.relay_store.proofs.OnePlace.{one_place}
use Rattle.relay_store.proofs.laws.faults_have_one_place.Goals as goal

pub returns : goal.returns
returns c = one_place
