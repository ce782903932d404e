use Rattle.std.proofs.Common.{length}
use Rattle.store_read.specs.Events.{IsSearching}
use Rattle.store_read.proofs.finding.find_shown.Given as goal

abbrev pub invariant-places : goal.invariant-places
invariant-places g l = IsSearching g.D.Disk.tells l.log l.core (g.D.Disk.view l.initial.disk) (g.D.Disk.view l.disk) l.initial.buffer l.buffer l.initial.damage l.damage l.places l.left

abbrev pub decreases-places : goal.decreases-places
decreases-places g l = length l.left
