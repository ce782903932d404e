use Rattle.std.proofs.Common.{arith}
use Rattle.at_commit.proofs.Unsigned.{counted_so_far, few_signed}
use Rattle.at_commit.proofs.signing.count_signed.Goals as goal

pub overflow_add-count : goal.overflow_add-count
overflow_add-count c =
    let next = counted_so_far c.args.fields.now c.loop-key.key-index c.loop-key.count c.from-count.result c.is_signed.result c.loop-key-item.result c.loop-key-test.true c.loop-key-item.is c.is_signed.ensures c.from-count.ensures
    c.loop-key.invariant in
    omega (arith, few_signed c.args.fields.now)
