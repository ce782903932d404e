use Rattle.std.proofs.Common.{arith}
use Rattle.row_codec.proofs.Bodies.{reads_body}
use Rattle.row_codec.proofs.reading.read_rows.Goals as goal

pub returns : goal.returns
returns c = reads_body c.args.body.now c.read_all.result (λ i. omega (arith, c.type_inv.body i)) c.read_all.ensures
