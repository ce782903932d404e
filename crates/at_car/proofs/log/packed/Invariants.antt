use Rattle.std.proofs.Common.{◌≡◌, ◌++◌, length, map}
use Rattle.std.specs.List.{All}
use Rattle.at_car.specs.Logs.{told, IsTold}
use Rattle.at_car.proofs.log.packed.Given as goal

abbrev pub decreases-entries : goal.decreases-entries
decreases-entries l = length l.rest

abbrev pub invariant-entries : goal.invariant-entries
invariant-entries l = (l.log ++ map (told l.buffer) l.rest ≡ map (told l.buffer) l.entries) × All (IsTold l.buffer) l.rest
