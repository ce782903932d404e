-- What a command that only reads leaves on the two disks of a journal (own).
use Rattle.std.specs.Prelude.{◌≢◌, ℕ, List}
use Rattle.relay_row.specs.declared.row.Row.{Row}
use Rattle.run_base.specs.Deeds.{Deed, OnDisks, reads}
use Rattle.run_base.specs.Place.{Place, Tells}
use Rattle.run_base.specs.declared.status.Status.{Status}

-- the journal stays, and lines and a last one are written
abbrev pub prints : List Row → List ℕ → List ℕ → Deed
prints J lines last = record (reads J last) {
  lines = lines;
}

-- on disks that were opened, unless memory ran out
abbrev pub OnRead : Tells → ℕ → List Row → List ℕ → List ℕ → Place → Place → Status → Type 0
OnRead t most J lines last old new status =
    OnDisks t most J (status ≢ Status.Memory) (prints J lines last) old new status
