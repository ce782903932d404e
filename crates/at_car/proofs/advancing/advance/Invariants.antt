use Rattle.std.proofs.Common.{ℕ, List, length}
use Rattle.at_car.specs.Standing.{left_of, StandsFor}
use Rattle.at_car.proofs.advancing.advance.Given as goal

abbrev pub invariant-steps : goal.invariant-steps
invariant-steps g l = (bytes : List ℕ) → StandsFor g.S.Sieve.picks l.fn.progress bytes → StandsFor g.S.Sieve.picks l.progress bytes

abbrev pub decreases-steps : goal.decreases-steps
decreases-steps g l = length (left_of l.progress)
