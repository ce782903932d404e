-- What a scan gives in the end.
use Rattle.std.specs.Prelude.{◌≡◌, ℕ, Bool, List, Result, Ok, Err}
use Rattle.at_cid.specs.Memory.{Fails}
use Rattle.at_car.specs.declared.fault.CarFault.{CarFault}
use Rattle.at_car.specs.Blocks.{BlockMap}
use Rattle.at_car.specs.Car.{fault_of}
use Rattle.at_car.specs.Sifting.{IsSifted}
use Rattle.at_car.specs.Standing.{root_of}
use Rattle.at_car.specs.declared.scan.Kept.{Kept}

-- what is kept is of these blocks
abbrev pub IsKeptOf : (List ℕ → Bool) → BlockMap → Kept → Type 0
IsKeptOf picks blocks kept =
    IsSifted picks (root_of kept.roots) blocks kept.first kept.nodes kept.others

-- the answer is a CAR of which this is kept, or the fault, unless memory ran out
abbrev pub Finishes : (List ℕ → Bool) → Result Kept CarFault
    → Result (List (List ℕ) × BlockMap) CarFault → Type 0
Finishes picks (Ok kept) answer =
    (blocks : BlockMap) × (answer ≡ Ok (kept.roots, blocks)) × IsKeptOf picks blocks kept
Finishes picks (Err fault) answer = Fails (fault_of fault) answer
