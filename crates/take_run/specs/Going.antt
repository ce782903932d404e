-- A part of a run: what it does to the store, the disks, who is asked and the output, in a form
-- that goes on by one part after another (own).
use Rattle.std.specs.Prelude.{◌≡◌, ◌≢◌, ◌⊎◌, ℕ, Bool, true, false, List, [], ◌∷◌, ◌++◌, Option, Some, None, Result, Ok, Err, IsTrue, take}
use Rattle.at_cid.specs.Link.{IsBytes}
use Rattle.relay_disk.specs.Disk.{View}
use Rattle.gate_log.specs.Pick.{view_of_side}
use Rattle.relay_row.specs.Journal.{IsJournal}
use Rattle.relay_row.specs.declared.row.Row.{Row}
use Rattle.relay_core.specs.Decide.{Checks}
use Rattle.relay_core.specs.Entries.{Holds}
use Rattle.relay_core.specs.Opening.{OpensRight}
use Rattle.relay_core.specs.Report.{end_line}
use Rattle.relay_core.specs.Runs.{has_ended}
use Rattle.relay_law.specs.Right.{LinksRight}
use Rattle.relay_step.specs.Around.{AllAsked}
use Rattle.relay_step.specs.Causes.{SpendsNone}
use Rattle.relay_step.specs.Steps.{Step, AreSteps, messages, rows}
use Rattle.store_take.specs.Batches.{messages_sent}
use Rattle.relay_store.specs.PendingBodies.{IsFull}
use Rattle.relay_store.specs.Store.{IsKept, Keeps, StoreState, seen_in}
use Rattle.store_take.specs.declared.message.Message.{Message}
use Rattle.tape.specs.Format.{IsRecord}
use Rattle.run_base.specs.Ends.{Writes}
use Rattle.run_base.specs.Place.{Place, Tells}
use Rattle.run_base.specs.declared.status.Status.{Status}
use Rattle.take_run.specs.Crashes.{HadRoom, Keeping, Leaves}
use Rattle.take_run.specs.Ends.{FaultsTold, IsStop, StopsBefore, StopsShort}
use Rattle.take_run.specs.Feeds.{IsOnStream}
use Rattle.take_run.specs.Ingested.{Input, IsInputTold}
use Rattle.take_run.specs.Lines.{lines_of}
use Rattle.take_run.specs.Said.{IsNoted, said}
use Rattle.take_run.specs.Taken.{StepsTaken, all_read}
use Rattle.take_run.specs.Tapes.{AreRecords, IsOnTape}
use Rattle.take_run.specs.declared.run.Run.{Run}
use Rattle.take_run.specs.declared.tally.Tally.{Tally}

-- all that a part of a run moves
pub record Point : Type 1 where
  pub store : StoreState
  pub tally : Tally
  pub place : Place

abbrev pub at : Run → Place → Point
at run place = record { store = seen_in run.store; tally = run.tally; place = place }

-- the disk that the store is open on
abbrev pub live : Point → View
live p = view_of_side p.store.side p.place.one p.place.two

-- nothing is noted yet
pub record IsNew (tally : Tally) : Type 0 where
  pub ended : tally.ended.items ≡ []
  pub messages : tally.messages ≡ 0
  pub events : tally.events ≡ 0
  pub refused : tally.refused ≡ 0

-- a part may begin there
pub record IsReady (t : Tells) (p : Point) : Type 0 where
  pub is_open : IsTrue p.store.log.is_open
  pub on : IsTrue t.disk → IsKept p.store (live p)

-- ---- whatever the journal

-- Nothing failed, and no method lost the last of its authorities.
pub record NothingFailed (old new : Place) : Type 0 where
  pub counts : new.failed ≡ old.failed
  pub unspent : SpendsNone old.around.panel new.around.panel

abbrev pub PartEnded : {A : Type 0} → Place → Place → Result A Status → Type 0
PartEnded old new (Ok done) = NothingFailed old new
PartEnded old new (Err status) = IsStop status × FaultsTold ⊥ old new status

-- ---- of a journal

-- All of the messages were taken after the journal J: their rows stand on the disk, and their
-- lines are written.
pub record Going (t : Tells) (J : List Row) (group : List Message) (old new : Point) : Type 0 where
  pub steps : List Step
  pub of : messages_sent steps ≡ group
  pub are : (checks : Checks) → OpensRight checks → LinksRight checks
      → AreSteps checks J old.tally.ended.items steps
  pub journal : IsJournal (J ++ rows steps)
  pub known : Holds new.store.core (J ++ rows steps)
  pub on_disk : IsTrue t.disk → Keeps J old.store (live old)
      → Keeping J (rows steps) old.store (live old) new.store (live new)
  pub format : new.store.log.format ≡ old.store.log.format
  pub most : new.store.log.most ≡ old.store.log.most
  pub room : HadRoom (rows steps) old.store.log new.store.log
  pub noted : IsNoted (said steps) old.tally new.tally
  pub written : IsTrue t.output → new.place.written ≡ old.place.written ++ lines_of steps
  pub asked : AllAsked t.clock t.repos J old.place.around steps new.place.around

-- What the store and its disk hold of these steps.
pub record StoreLeft (t : Tells) (J rows under extra : List Row) (old new : Point)
    (status : Status) : Type 0 where
  pub known : status ≢ Status.Disk → Holds new.store.core (J ++ rows)
  pub on_disk : IsTrue t.disk → Keeps J old.store (live old)
      → Leaves J rows under old.store (live old) new.store (live new) status
  pub format : new.store.log.format ≡ old.store.log.format
  pub most : new.store.log.most ≡ old.store.log.most
  pub room : status ≢ Status.Disk → HadRoom rows old.store.log new.store.log
  pub full : (e : ℕ) → status ≡ Status.Full e → (row : Row) × (extra ≡ row ∷ [])
      × IsFull new.store.log [] row e

-- A fault stopped it: some messages in front were taken.
pub record Stopped (t : Tells) (J : List Row) (group : List Message) (old new : Point)
    (status : Status) : Type 0 where
  pub taken : StepsTaken t J old.tally.ended.items old.place new.place status
  pub front : group ≡ all_read taken
  pub store : StoreLeft t J (rows taken.steps) (rows taken.under) (rows taken.extra) old new status
  pub written : IsTrue t.output
      → Writes status (lines_of taken.steps) [] old.place.written new.place.written
  pub before : StopsBefore status
      (StopsShort t.output status taken.steps taken.under taken.behind old.place.written
      new.place.written) taken.under taken.extra taken.behind

-- some messages in front, so many where it came to an end
abbrev pub TookSome : Tells → List Row → List Message → Point → Point → Result ℕ Status → Type 0
TookSome t J group old new (Ok n) = Going t J (take n group) old new
TookSome t J group old new (Err status) = Stopped t J group old new status

-- or all of them
abbrev pub TookAll : Tells → List Row → List Message → Point → Point → Result (Unit {0}) Status
    → Type 0
TookAll t J group old new (Ok done) = Going t J group old new
TookAll t J group old new (Err status) = Stopped t J group old new status

-- ---- the next message of a host

-- The next message of a host that hasn't ended, or none where it has or there are no more.
abbrev pub IsNext : List ℕ → List (List ℕ) → Option Message → (List (List ℕ) → Type 0)
    → (List (List ℕ) → Type 0) → Type 0
IsNext host ended None old new = (given : List (List ℕ)) → old given
    → new given × ((given ≡ []) ⊎ (has_ended ended host ≡ true))
IsNext host ended (Some m) old new = (m.host ≡ host) × IsRecord m.host m.bytes × IsBytes m.bytes
    × (has_ended ended host ≡ false)
    × ((given : List (List ℕ)) → old given → (rest : List (List ℕ)) × new rest
    × (given ≡ m.bytes ∷ rest))

-- ---- a whole run

-- Messages were taken after the journal J, and the report was written.
pub record Ran (t : Tells) (J : List Row) (old new : Point) (status : Status)
    (taken : StepsTaken t J [] old.place new.place status) : Type 0 where
  pub records : AreRecords (all_read taken)
  pub store : StoreLeft t J (rows taken.steps) (rows taken.under) (rows taken.extra) old new status
  pub written : IsTrue t.output → Writes status (lines_of taken.steps)
      (end_line J (messages taken.steps) (rows taken.steps)) old.place.written new.place.written

-- of a tape
pub record TapeTaken (t : Tells) (input_tells : Bool) (limit : ℕ) (J : List Row) (old new : Point)
    (before after : Input) (status : Status) : Type 0 where
  pub taken : StepsTaken t J [] old.place new.place status
  pub ran : Ran t J old new status taken
  pub from : IsTrue input_tells → IsOnTape limit before.left after.left (all_read taken) status
  pub told : IsInputTold taken before after

-- of what a host gives
pub record StreamTaken (t : Tells) (host : List ℕ) (count : ℕ) (J : List Row) (old new : Point)
    (before after : List (List ℕ) → Type 0) (status : Status) : Type 0 where
  pub taken : StepsTaken t J [] old.place new.place status
  pub ran : Ran t J old new status taken
  pub stream : IsOnStream host count before after taken
