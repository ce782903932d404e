use Rattle.law_premises.proofs.Linking.{linking_wrong}
use Rattle.law_premises.proofs.instances.linking_may_be_wrong.Goals as goal

pub returns : goal.returns
returns c = linking_wrong
