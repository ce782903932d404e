-- What reading leaves of events, and of the disk that they are on (own).
use Rattle.std.specs.Prelude.{◌≡◌, ℕ, Bool, Option, IsTrue}
use Rattle.event_window.specs.Held.{Held}
use Rattle.relay_disk.specs.Disk.{View, Goes, Same}
use Rattle.at_cid.specs.Counts.{Counted}
use Rattle.run_base.specs.declared.status.Status.{Status}
use Rattle.read_run.specs.Ends.{damage_told}

-- Events were read, and it ended so.
pub record WereRead {E : Type 0} (tells : Bool) (holds : E → Held → Type 0) (faults : E → ℕ)
    (damage : E → Option ℕ) (old new : E) (status : Status) : Type 0 where
  pub same : IsTrue tells → (held : Held) → holds old held → holds new held
  -- the count of faults rose where the disk failed, and else stands
  pub counts : Counted (status ≡ Status.Disk) (faults old) (faults new)
  -- the damage that was found is told, and what tells the events that it holds has none
  pub damaged : damage new ≡ damage_told (damage old) status
  pub good : (place : ℕ) → status ≡ Status.BadLog place → IsTrue tells → (held : Held)
      → holds old held → ⊥

-- So was the disk of a store.
pub record WasRead (tells : Bool) (old new : View) (status : Status) : Type 0 where
  pub goes : Goes Same old new
  pub counts : Counted (status ≡ Status.Disk) old.faults new.faults
  pub good : (place : ℕ) → status ≡ Status.BadLog place → IsTrue tells → ⊥
