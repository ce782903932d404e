use Rattle.at_cbor.specs.EqualLaws.{item_eq-Decides}
use Rattle.at_cbor.proofs.laws.equal_is_same.Goals as goal

pub returns : goal.returns
returns c = λ i j. item_eq-Decides i j
