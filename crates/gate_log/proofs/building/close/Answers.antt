use Rattle.std.proofs.Common.{rules}
use Rattle.relay_disk.specs.Disk.{Same}
use Rattle.relay_disk.proofs.Moments.{time_called, time_joined}
use Rattle.gate_log.proofs.building.close.Goals as goal

pub returns-clause-moments : goal.returns-clause-moments
returns-clause-moments g c = λ tells. record {
  later = search rules;
  each = search rules;
  before = search rules;
  time = time_joined _ _ _ (time_called Same _ _ (g.met.D.Disk.is_disk _) (g.met.D.Disk.is_disk _) c.read.ensures.goes) c.write_through.ensures.moments.time;
}
