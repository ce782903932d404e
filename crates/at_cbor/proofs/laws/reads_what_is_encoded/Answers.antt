use Rattle.at_cbor.proofs.Decoded.{read_front, front_read}
use Rattle.at_cbor.proofs.laws.reads_what_is_encoded.Goals as goal

pub returns : goal.returns
returns c = λ bytes i n fits. (read_front bytes i n fits, front_read bytes i n)
