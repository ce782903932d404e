use Rattle.std.proofs.Common.{refl}
use Rattle.relay_store.proofs.Fronts.{no_tail, byte_tail}
use Rattle.relay_store.proofs.pending.list_front_len.Goals as goal

pub returns-then-count-lt24-clause-len : goal.returns-then-count-lt24-clause-len
returns-then-count-lt24-clause-len c = rw (no_tail c.args.count c.if-count-lt24.true) refl

pub returns-else-count-lt24-clause-len : goal.returns-else-count-lt24-clause-len
returns-else-count-lt24-clause-len c = rw (byte_tail c.args.count c.if-count-lt24.false c.requires) refl
