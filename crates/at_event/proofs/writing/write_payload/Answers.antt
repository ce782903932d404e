use Rattle.std.proofs.lemmas.Result.{on_ok_weaker}
use Rattle.at_event.specs.Writing.{blocks_of}
use Rattle.at_event.proofs.WriteFields.{payload_written}
use Rattle.at_event.proofs.writing.write_payload.Goals as goal

pub returns-in_ok-write_map_front-in-Map-clause-written : goal.returns-in_ok-write_map_front-in-Map-clause-written
returns-in_ok-write_map_front-in-Map-clause-written c = on_ok_weaker c.write_fields.result (λ written. rw c.in-Map.is (payload_written c.args.seq (blocks_of c.args.body.now) c.args.out.now c.write_map_front.new.out c.write_fields.new.out c.as_slice.result.now c.in-Map.fields c.len.result c.in_ok-write_map_front-in-Map.ensures.written c.len.ensures c.as_slice.ensures.value written)) c.write_fields.ensures.written
