use Rattle.at_cbor.proofs.Decoded.{one_encoding}
use Rattle.at_cbor.proofs.laws.encoding_tells_item.Goals as goal

pub returns : goal.returns
returns c = one_encoding
