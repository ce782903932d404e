use Rattle.std.proofs.Common.{◌-◌}
use Rattle.relay_store.specs.Opening.{IsLoading}
use Rattle.relay_store.proofs.loading.load.Given as goal

abbrev pub invariant-bodies : goal.invariant-bodies
invariant-bodies g l = IsLoading g.D.Disk.tells l.log (g.D.Disk.view l.initial.disk) (g.D.Disk.view l.disk) l.place l.core l.window.places

abbrev pub decreases-bodies : goal.decreases-bodies
decreases-bodies g l = l.log.end - l.place
