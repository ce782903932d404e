use Rattle.std.proofs.Common.{◌-◌}
use Rattle.store_cut.proofs.Recopied.{IsFolding}
use Rattle.store_cut.proofs.rereading.fold_before.Given as goal

abbrev pub invariant-bodies : goal.invariant-bodies
invariant-bodies g l = IsFolding g.D.Disk.tells l.log (g.D.Disk.view l.initial.disk) (g.D.Disk.view l.disk) l.upto l.place l.core

abbrev pub decreases-bodies : goal.decreases-bodies
decreases-bodies g l = l.upto - l.place
