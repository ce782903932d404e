use Rattle.store_lives.proofs.Living.{kept}
use Rattle.store_lives.proofs.laws.answers_are_kept.Goals as goal

pub returns : goal.returns
returns g c = λ tells. kept g.D.Disk.view g.D.Disk.tells tells g.met.D.Disk.is_disk
