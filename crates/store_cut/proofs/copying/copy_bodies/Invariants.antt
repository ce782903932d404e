use Rattle.std.proofs.Common.{◌-◌}
use Rattle.store_cut.proofs.Recopied.{IsRecopying}
use Rattle.store_cut.proofs.copying.copy_bodies.Given as goal

abbrev pub invariant-bodies : goal.invariant-bodies
invariant-bodies g l = IsRecopying g.D.Disk.tells l.log (g.D.Disk.view l.initial.disk) (g.D.Disk.view l.disk) l.fn.from l.place l.initial.rewrite l.rewrite (g.D.Disk.view l.initial.other) (g.D.Disk.view l.other)

abbrev pub decreases-bodies : goal.decreases-bodies
decreases-bodies g l = l.log.end - l.place
