use Rattle.std.proofs.Common.{refl}
use Rattle.relay_store.proofs.Fronts.{no_tail, small_info, byte_tail, byte_info}
use Rattle.relay_store.proofs.pending.list_front.Goals as goal

pub returns-then-count-lt24 : goal.returns-then-count-lt24
returns-then-count-lt24 c = rw (no_tail c.args.count c.if-count-lt24.true, small_info c.args.count c.if-count-lt24.true) refl

pub returns : goal.returns
returns c = rw (byte_tail c.args.count c.if-count-lt24.false c.requires, byte_info c.args.count c.if-count-lt24.false c.requires) refl
