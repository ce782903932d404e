use Rattle.row_codec.proofs.Bodies.{same_rows}
use Rattle.row_codec.proofs.laws.bodies_tell_rows.Goals as goal

pub returns : goal.returns
returns c = same_rows
