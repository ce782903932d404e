use Rattle.std.proofs.Common.{arith}
use Rattle.at_event.specs.Writing.{blocks_of}
use Rattle.at_event.proofs.WriteFields.{payload_length}
use Rattle.at_event.proofs.writing.payload_len.Goals as goal

pub returns-in-Map : goal.returns-in-Map
returns-in-Map c =
    rw c.in-Map.is (omega (arith, c.saturating_add.ensures, c.front_len-front.ensures, c.fields_len.ensures, payload_length (blocks_of c.args.body.now) c.as_slice.result.now c.in-Map.fields c.len.result c.as_slice.ensures.value c.len.ensures))
