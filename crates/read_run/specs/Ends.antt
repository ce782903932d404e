-- How commands end that only read a journal (own).
use Rattle.std.specs.Prelude.{◌≡◌, ◌≢◌, ◌≤◌, ◌⊎◌, ⊤, ℕ, Option, Some, Result, Ok, Err, IsTrue}
use Rattle.at_cid.specs.Counts.{Counted}
use Rattle.event_window.specs.declared.fault.EventsFault.{EventsFault}
use Rattle.backfill.specs.declared.replay_fault.ReplayFault.{ReplayFault}
use Rattle.backfill.specs.declared.serve_fault.ServeFault.{ServeFault}
use Rattle.run_base.specs.Ends.{Caused, Shows, Told}
use Rattle.run_base.specs.Place.{Place, Tells}
use Rattle.run_base.specs.declared.status.Status.{Status}
use Rattle.read_run.specs.declared.session.Session.{Session}

-- ---- which statuses may come, whatever the disks

-- those of the door and of the wire where these hold
abbrev pub MayEnd : Type 0 → Type 0 → Status → Type 0
MayEnd door wire Status.Done = ⊤
MayEnd door wire Status.WriteFault = ⊤
MayEnd door wire Status.Disk = ⊤
MayEnd door wire (Status.BadLog place) = ⊤
MayEnd door wire Status.Memory = ⊤
MayEnd door wire Status.Door = door
MayEnd door wire Status.Wire = wire
MayEnd door wire status = ⊥

-- of a command that writes what it reads, of the one that serves guests, and of the one that
-- answers requests
abbrev pub MayEndReading : Status → Type 0
MayEndReading status = MayEnd ⊥ ⊥ status

abbrev pub MayEndServing : Status → Type 0
MayEndServing status = MayEnd ⊤ ⊥ status

abbrev pub MayEndQuerying : Status → Type 0
MayEndQuerying status = MayEnd ⊥ ⊤ status

-- ---- what they tell

-- the disks ended it: one failed, or they hold no journal
abbrev pub IsOfDisks : Status → Type 0
IsOfDisks status = (status ≡ Status.Disk) ⊎ ((place : ℕ) × (status ≡ Status.BadLog place))

-- What the disks were, and which failures are told: those of the disks in any case, and all others
-- unless this holds.
pub record ReadEnded (hidden : Type 0) (t : Tells) (old new : Place) (status : Status) : Type 0
  where
    pub shows : IsTrue t.disk → Shows status old.one.content old.two.content
    pub caused : Caused status old new
    pub told : (hidden → ⊥) → Told status old new
    pub disks : status ≢ Status.Disk
        → (new.failed.one ≡ old.failed.one) × (new.failed.two ≡ old.failed.two)

-- A count rose where the call failed for its part, and else stands; and that of the failures within,
-- of sessions at a door or of sendings over a wire, which end nothing, never falls.
pub record CountedWithin (failed : Type 0) (old within new within_now : ℕ) : Type 0 where
  pub own : Counted failed old new
  pub kept : within ≤ within_now

-- ---- how a part ends

-- by a fault of the events
abbrev pub status_of_events : EventsFault → Status
status_of_events EventsFault.Disk = Status.Disk
status_of_events EventsFault.Memory = Status.Memory
status_of_events (EventsFault.BadLog place) = Status.BadLog place

-- by a fault of a replay
abbrev pub status_of_replay : ReplayFault → Status
status_of_replay ReplayFault.Output = Status.WriteFault
status_of_replay ReplayFault.Disk = Status.Disk
status_of_replay ReplayFault.Memory = Status.Memory
status_of_replay (ReplayFault.BadLog place) = Status.BadLog place

-- by a fault of serving: the session failed, or was broken off
abbrev pub session_after : ServeFault → Result Session Status
session_after (ServeFault.Door events) = Ok (Session.Failed events)
session_after ServeFault.Disk = Err Status.Disk
session_after ServeFault.Memory = Err Status.Memory
session_after (ServeFault.BadLog place) = Err (Status.BadLog place)

-- an event isn't read: memory ran out, or the disks ended it
abbrev pub IsUnread : Status → Type 0
IsUnread status = (status ≡ Status.Memory) ⊎ IsOfDisks status

-- no guest was met: the door failed, or a session was broken off so
abbrev pub IsUnmet : Status → Type 0
IsUnmet status = (status ≡ Status.Door) ⊎ IsUnread status

-- no request came: the wire failed, or memory ran out
abbrev pub IsUnasked : Status → Type 0
IsUnasked status = (status ≡ Status.Wire) ⊎ (status ≡ Status.Memory)

-- where damage was found last, once a part has ended so
abbrev pub damage_told : Option ℕ → Status → Option ℕ
damage_told before (Status.BadLog place) = Some place
damage_told before status = before
