-- What a command does that shows the journal of two disks (own).
use Rattle.std.specs.Prelude.{◌≡◌, ℕ, List}
use Rattle.relay_row.specs.declared.row.Row.{Row}
use Rattle.relay_store.specs.Opening.{IsOfReading}
use Rattle.relay_store.specs.declared.fault.StoreFault.{StoreFault}
use Rattle.run_base.specs.Deeds.{Came, OnDisks, WasOpened, answered, in_vain, reads, unopened}
use Rattle.run_base.specs.Place.{Place, Tells}
use Rattle.run_base.specs.Statuses.{status_of_fault}
use Rattle.run_base.specs.declared.status.Status.{Status}
use Rattle.relay_run.specs.Lines.{IsDone}

-- how it may end by what came of it: in vain where memory ran out
abbrev pub IsShownCome : Status → Came (Unit {0}) → Type 0
IsShownCome status unopened = (fault : StoreFault) × (status ≡ status_of_fault fault)
    × IsOfReading fault
IsShownCome status in_vain = status ≡ Status.Memory
IsShownCome status (answered shown) = IsDone status

-- A text of the journal J of two disks was to be shown.
pub record TextShown (t : Tells) (most : ℕ) (J : List Row) (text : List ℕ) (old new : Place)
    (status : Status) : Type 0 where
  pub came : Came (Unit {0})
  pub is : IsShownCome status came
  pub does : OnDisks t most J (WasOpened came) (reads J text) old new status
