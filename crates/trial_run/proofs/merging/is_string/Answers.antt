use Rattle.std.proofs.Common.{arith}
use Rattle.trial_run.proofs.merging.is_string.Goals as goal

pub returns : goal.returns
returns c = λ is. (omega (arith, is), λ i. omega (arith, c.type_inv.message i))
