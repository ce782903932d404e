use Rattle.std.proofs.Common.{◌≡◌, ◌++◌, length, take, drop}
use Rattle.at_event.specs.Writing.{blocks_of}
use Rattle.at_event.proofs.WriteFields.{renumbered_encoding}
use Rattle.at_event.proofs.writing.write_fields.Given as goal

abbrev pub invariant-loop-key : goal.invariant-loop-key
invariant-loop-key l = record {
  written : l.out ++ renumbered_encoding l.seq (blocks_of l.body) (drop l.key-index l.fields) ≡ l.fn.out ++ renumbered_encoding l.seq (blocks_of l.body) l.fields;
  kept : take (length l.fn.out) l.out ≡ l.fn.out;
}
