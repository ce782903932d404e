use Rattle.std.proofs.Common.{arith}
use Rattle.at_syntax.proofs.Tids.{character_there, next_below}
use Rattle.at_syntax.proofs.tid.value.Goals as goal

pub overflow_mul-value : goal.overflow_mul-value
overflow_mul-value c =
    let next = next_below c.args.text.now c.loop-byte.byte-index c.loop-byte.value c.requires (omega arith) c.loop-byte.invariant in
    omega arith

pub digit-requires : goal.digit-requires
digit-requires c = character_there c.args.text.now c.loop-byte.byte-index c.requires (omega arith)

pub overflow_add-value : goal.overflow_add-value
overflow_add-value c =
    let next = next_below c.args.text.now c.loop-byte.byte-index c.loop-byte.value c.requires (omega arith) c.loop-byte.invariant in
    omega arith
