use Rattle.store_lives.proofs.Living.{stay}
use Rattle.store_lives.proofs.laws.answers_stay.Goals as goal

pub returns : goal.returns
returns g c = λ tells passes. stay g.D.Disk.view g.D.Disk.tells tells g.met.D.Disk.is_disk passes
