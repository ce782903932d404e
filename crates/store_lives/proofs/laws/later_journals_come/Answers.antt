use Rattle.store_lives.proofs.Living.{come}
use Rattle.store_lives.proofs.laws.later_journals_come.Goals as goal

pub returns : goal.returns
returns g c = λ tells passes. come g.D.Disk.view g.D.Disk.tells tells g.met.D.Disk.is_disk passes
