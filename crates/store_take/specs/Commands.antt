-- What an operator's command does (own).
use Rattle.std.specs.Prelude.{◌≡◌, ◌≢◌, ◌⊎◌, ◌≤◌, Bool, List, [], ◌∷◌, ◌++◌, Result, Ok, Err, IsTrue}
use Rattle.relay_disk.specs.Disk.{View}
use Rattle.relay_disk.specs.Moments.{LeavesOnly}
use Rattle.gate_log.specs.Log.{LogState}
use Rattle.relay_row.specs.Journal.{IsJournal}
use Rattle.relay_row.specs.Folds.{seq_in}
use Rattle.relay_row.specs.declared.row.Row.{Row}
use Rattle.relay_core.specs.Entries.{Holds}
use Rattle.relay_step.specs.Commands.{rows_commanded}
use Rattle.relay_step.specs.declared.command.CommandAnswer.{CommandAnswer}
use Rattle.relay_store.specs.Journals.{IsOneOf}
use Rattle.relay_store.specs.PendingBodies.{HasRows, IsFull, end_of, pending_end}
use Rattle.relay_store.specs.Store.{StoreState, Keeps}
use Rattle.store_take.specs.Taking.{ComesOfAsking}
use Rattle.store_take.specs.declared.done.Done.{Done}
use Rattle.relay_store.specs.declared.pending.Pending.{Pending}
use Rattle.relay_store.specs.declared.fault.StoreFault.{StoreFault}

-- what is answered to a word
abbrev pub done_row : Row → Done
done_row (Row.Taken t) = Done.Event (seq_in (Row.Taken t))
done_row (Row.Synced did whole moment) = Done.Synced whole.seq whole.records
done_row (Row.Operated o) = Done.Event o.seq
done_row (Row.Carried c) = Done.Event (seq_in (Row.Carried c))

abbrev pub done_of : CommandAnswer → Done
done_of (CommandAnswer.Refused r) = Done.Refused r
done_of (CommandAnswer.Made row) = done_row row

-- a fault that comes behind a word: its row had no room, or memory ran out
abbrev pub IsLate : LogState → Pending → List Row → StoreFault → Type 0
IsLate log d rows (StoreFault.Full e) = (row : Row) × (rows ≡ row ∷ [])
    × ((before : List Row) → HasRows before d → IsFull log before row e)
IsLate log d rows StoreFault.Memory = Unit {0}
IsLate log d rows StoreFault.Disk = ⊥
IsLate log d rows (StoreFault.BadLog place) = ⊥
IsLate log d rows StoreFault.SeqEnd = ⊥
IsLate log d rows StoreFault.Authority = ⊥
IsLate log d rows StoreFault.Repos = ⊥
IsLate log d rows StoreFault.Clock = ⊥

-- what may come behind a word
abbrev pub IsOfCommand : StoreFault → Type 0
IsOfCommand StoreFault.Disk = Unit {0}
IsOfCommand (StoreFault.Full e) = Unit {0}
IsOfCommand StoreFault.Memory = Unit {0}
IsOfCommand (StoreFault.BadLog place) = ⊥
IsOfCommand StoreFault.SeqEnd = ⊥
IsOfCommand StoreFault.Authority = ⊥
IsOfCommand StoreFault.Repos = ⊥
IsOfCommand StoreFault.Clock = ⊥

-- what may come of an account that is taken down or restored: the judges and the repositories
-- aren't asked
abbrev pub IsOfOperating : StoreFault → Type 0
IsOfOperating StoreFault.Authority = ⊥
IsOfOperating StoreFault.Repos = ⊥
IsOfOperating (StoreFault.BadLog place) = ⊥
IsOfOperating fault = Unit {0}

-- the rows that were added
abbrev pub added : Result Done StoreFault → List Row → List Row
added (Ok done) rows = rows
added (Err fault) rows = []

-- what is answered: what the word comes to, or that the disk failed, that memory ran out, or that
-- the log has no room for its row
abbrev pub IsAnswer : LogState → CommandAnswer → Result Done StoreFault → Type 0
IsAnswer log command (Ok done) = done ≡ done_of command
IsAnswer log command (Err (StoreFault.Full e)) = (row : Row) × (rows_commanded command ≡ row ∷ [])
    × IsFull log [] row e
IsAnswer log command (Err StoreFault.Disk) = Unit {0}
IsAnswer log command (Err StoreFault.Memory) = Unit {0}
IsAnswer log command (Err (StoreFault.BadLog place)) = ⊥
IsAnswer log command (Err StoreFault.SeqEnd) = ⊥
IsAnswer log command (Err StoreFault.Authority) = ⊥
IsAnswer log command (Err StoreFault.Repos) = ⊥
IsAnswer log command (Err StoreFault.Clock) = ⊥

-- A word was taken behind the journal J, and this was answered.
pub record Commanded {D : Type 0} (view : D → View) (tells : Bool) (J : List Row)
    (command : CommandAnswer) (old new : StoreState) (disk disk_now : D)
    (result : Result Done StoreFault) : Type 0 where
  pub answer : IsAnswer old.log command result
  -- a row that was added had room
  pub room : (added result (rows_commanded command) ≡ [])
      ⊎ (end_of old.log.end (rows_commanded command) ≤ old.log.most)
  -- the log is of the format that it had, and may go as far
  pub format : new.log.format ≡ old.log.format
  pub most : new.log.most ≡ old.log.most
  -- the next body goes behind the one of the row
  pub end : result ≢ Err StoreFault.Disk
      → new.log.end ≡ pending_end old.log.end (added result (rows_commanded command))
  -- after every fault but the disk's the row is known, if one was added, and the disk holds it
  pub known : result ≢ Err StoreFault.Disk
      → Holds new.core (J ++ added result (rows_commanded command))
  pub keeps : result ≢ Err StoreFault.Disk → IsTrue tells → Keeps J old (view disk)
      → Keeps (J ++ added result (rows_commanded command)) new (view disk_now)
  pub untouched : result ≢ Err StoreFault.Disk → added result (rows_commanded command) ≡ []
      → (new.log ≡ old.log) × ((new.window ≡ old.window) × (disk_now ≡ disk))
  -- a crash at any moment leaves the journal, with the row or without
  pub moments : IsTrue tells → Keeps J old (view disk)
      → LeavesOnly (IsOneOf old.log.format J (rows_commanded command)) (view disk) (view disk_now)

-- No word came of it.
pub record Unsaid {D : Type 0} (failed : Type 0) (old new : StoreState) (disk disk_now : D)
    (result : Result Done StoreFault) : Type 0 where
  pub fault : StoreFault
  pub is : result ≡ Err fault
  pub of_asking : ComesOfAsking fault
  pub came : failed
  pub same : new ≡ old
  pub disk_same : disk_now ≡ disk

-- An operator's command was taken behind the journal J: it is what it has to be, and this was
-- answered; or none came of it.
abbrev pub CommandDone : {D : Type 0} → (D → View) → Bool → List Row → (CommandAnswer → Type 0)
    → Type 0 → StoreState → StoreState → D → D → Result Done StoreFault → Type 0
CommandDone view tells J is_command failed old new disk disk_now result =
    ((command : CommandAnswer) × is_command command × IsJournal (J ++ rows_commanded command)
    × Commanded view tells J command old new disk disk_now result)
    ⊎ Unsaid failed old new disk disk_now result
