use Rattle.std.proofs.Common.{◌≡◌, ◌+◌, ◌-◌, ◌^◌, ◌<◌, length, drop}
use Rattle.std.specs.Prelude.{min}
use Rattle.at_event.specs.Writing.{blocks_of}
use Rattle.at_event.proofs.WriteFields.{encoding_with}
use Rattle.at_event.proofs.writing.fields_len.Given as goal

abbrev pub invariant-loop-key : goal.invariant-loop-key
invariant-loop-key l = record {
  counted : min (l.sum + length (encoding_with (blocks_of l.body) (drop l.key-index l.fields))) (2 ^ 64 - 1) ≡ min (length (encoding_with (blocks_of l.body) l.fields)) (2 ^ 64 - 1);
  below : l.sum < 2 ^ 64;
}
