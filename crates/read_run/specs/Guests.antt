-- What serving guests at a door does (own).
use Rattle.std.specs.Prelude.{◌≡◌, ◌⊎◌, ◌≤◌, ℕ, Bool, List, length, Result, Ok, Err}
use Rattle.event_window.specs.Held.{Held}
use Rattle.relay_row.specs.declared.row.Row.{Row}
use Rattle.relay_store.specs.Shown.{held_by}
use Rattle.run_base.specs.Place.{Place, Tells}
use Rattle.run_base.specs.declared.status.Status.{Status}
use Rattle.read_run.specs.AtDoor.{AtDoor, SessionIsBroken, NobodyComes, IsStill, Visited}
use Rattle.read_run.specs.OnRead.{OnRead}
use Rattle.read_run.specs.Sessions.{IsCounted, Visit, sessions_end_line, lines_behind}
use Rattle.read_run.specs.declared.session.Session.{Session}

-- what happened after the last session: all guests were served, or the door said that nobody comes
-- any more, or nobody came, or a session was broken off
abbrev pub IsBehind : Bool → Held → Type 0 → Status → AtDoor → AtDoor → Type 0
IsBehind tells held all Status.Done old new = (all × IsStill tells old new)
    ⊎ NobodyComes tells old new
IsBehind tells held all Status.WriteFault old new = IsStill tells old new
    ⊎ NobodyComes tells old new
IsBehind tells held all Status.Door old new = IsStill tells old new
IsBehind tells held all Status.Memory old new = IsStill tells old new
    ⊎ (NobodyComes tells old new ⊎ SessionIsBroken tells held old new)
IsBehind tells held all status old new = IsStill tells old new ⊎ SessionIsBroken tells held old new

-- Guests were served in the order of the door, at most `count`.
pub record GuestsServed (tells : Bool) (count : ℕ) (held : Held) (door door_now : AtDoor)
    (status : Status) : Type 0 where
  pub visits : List Visit
  -- the door when the last session ended
  pub mid : AtDoor
  pub visited : Visited tells held visits door mid
  pub few : length visits ≤ count
  pub behind : IsBehind tells held (length visits ≡ count) status mid door_now

-- the lines of their sessions, and the last one
abbrev pub session_lines : {tells : Bool} {count : ℕ} {held : Held} {door door_now : AtDoor}
    {status : Status} → GuestsServed tells count held door door_now status → List ℕ
session_lines g = lines_behind 0 g.visits

abbrev pub sessions_end : {tells : Bool} {count : ℕ} {held : Held} {door door_now : AtDoor}
    {status : Status} → GuestsServed tells count held door door_now status → List ℕ
sessions_end g = sessions_end_line (length g.visits)

-- Guests were served the events of the journal J of two disks, and the lines of their sessions were
-- written.
pub record ServedAt (t : Tells) (door_tells : Bool) (most count : ℕ) (J : List Row)
    (door door_now : AtDoor) (old new : Place) (status : Status) : Type 0 where
  pub served : GuestsServed door_tells count (held_by J) door door_now status
  pub does : OnRead t most J (session_lines served) (sessions_end served) old new status

-- the count of the failures of sessions, after what came of one: if it was broken off, it didn't
-- fail
abbrev pub IsSessionCount : ℕ → ℕ → Result Session Status → Type 0
IsSessionCount before now (Ok session) = IsCounted session before now
IsSessionCount before now (Err status) = now ≡ before
