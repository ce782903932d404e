use Rattle.relay_disk.proofs.Moments.{still_here}
use Rattle.store_read.proofs.finding.refill_body.Goals as goal

pub returns-then-is_before-clause-as_read : goal.returns-then-is_before-clause-as_read
returns-then-is_before-clause-as_read g c = record { goes = still_here _; holds = λ tells bodies held. held; on = c.requires.on }
