use Rattle.std.proofs.Common.{◌≡◌, ◌++◌, length}
use Rattle.row_codec.specs.Bodies.{encoded_rows}
use Rattle.row_codec.proofs.writing.write_encoded.Given as goal

abbrev pub decreases-rows : goal.decreases-rows
decreases-rows l = length l.rest

abbrev pub invariant-rows : goal.invariant-rows
invariant-rows l = l.out ++ encoded_rows l.rest ≡ l.fn.out ++ encoded_rows l.rows
