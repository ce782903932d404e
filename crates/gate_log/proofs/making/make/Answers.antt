use Rattle.relay_disk.proofs.Moments.{joined}
use Rattle.gate_log.proofs.making.make.Goals as goal

pub returns-clause-moments : goal.returns-clause-moments
returns-clause-moments g c = λ tells. joined _ _ _ _ (c.empty.ensures.moments tells) (c.make_on_empty.ensures.moments tells)
