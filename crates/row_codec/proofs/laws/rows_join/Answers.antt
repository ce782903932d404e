use Rattle.row_codec.proofs.Bodies.{encoded_joined}
use Rattle.row_codec.proofs.laws.rows_join.Goals as goal

pub returns : goal.returns
returns c = encoded_joined
