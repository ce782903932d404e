-- What happens at a door where guests are served (own).
use Rattle.std.specs.Prelude.{◌≡◌, ◌⊎◌, ℕ, Bool, List, [], ◌∷◌, ◌++◌, Option, Some, None, Result, Ok, Err, IsTrue}
use Rattle.event_window.specs.Held.{Held}
use Rattle.relay_io.specs.Guests.{next_of, others_of}
use Rattle.relay_io.specs.declared.door.Guest.{Guest}
use Rattle.relay_io.specs.declared.door.Turn.{Turn}
use Rattle.backfill.specs.Serving.{sendings}
use Rattle.backfill.specs.Target.{cursor_in}
use Rattle.backfill.specs.declared.target_fault.TargetFault.{TargetFault}
use Rattle.run_base.specs.Place.{Place}
use Rattle.run_base.specs.declared.status.Status.{Status}
use Rattle.read_run.specs.Sessions.{AllVisits, AreCounted, IsSentInPart, IsFailed, IsSentWhole, Visit, ending_of, guests_of, turns_of}
use Rattle.read_run.specs.declared.session.Session.{Session}

-- the parts of a command, with how often the door has failed
abbrev pub with_door : ℕ → Place → Place
with_door n p = record p {
  failed = record p.failed { door = n };
}

-- A door at one moment: the guests to come, what happened, and the count of failed sendings and
-- endings.
pub record AtDoor : Type 0 where
  pub guests : List Guest
  pub turns : List Turn
  pub faults : ℕ

-- the door at one moment, of its parts
abbrev pub at_door : List Guest → List Turn → ℕ → AtDoor
at_door guests turns faults = record { guests = guests; turns = turns; faults = faults }

-- The guest who waited was sent something, by what the target asks for, and the session ended: all
-- of it, or a front of it where the session failed or was broken off.
abbrev pub SessionServed : Bool → Held → Result (Option ℕ) TargetFault → List Turn → List Turn
    → Result Session Status → Type 0
SessionServed tells held asked old new (Ok session) =
    (sent : List (List ℕ)) × (IsSentWhole held asked sent session
    ⊎ IsFailed held asked sent session)
    × (IsTrue tells → new ≡ old ++ (sendings sent ++ ending_of session))
SessionServed tells held asked old new (Err status) = (sent : List (List ℕ))
    × IsSentInPart held asked sent × (IsTrue tells → new ≡ old ++ sendings sent)

-- These visits were made, one after another.
pub record Visited (tells : Bool) (held : Held) (visits : List Visit)
    (old new : AtDoor) : Type 0 where
  pub each : AllVisits held visits
  pub guests : IsTrue tells → old.guests ≡ guests_of visits ++ new.guests
  pub turns : IsTrue tells → new.turns ≡ old.turns ++ turns_of visits
  pub counted : AreCounted old.faults visits new.faults

-- nobody came, nothing was sent, and no session failed
abbrev pub IsStill : Bool → AtDoor → AtDoor → Type 0
IsStill tells old new =
    (new.faults ≡ old.faults) × (IsTrue tells → (new.guests ≡ old.guests) × (new.turns ≡ old.turns))

-- the door said that nobody comes any more
abbrev pub NobodyComes : Bool → AtDoor → AtDoor → Type 0
NobodyComes tells old new =
    (new.faults ≡ old.faults)
    × (IsTrue tells → (next_of old.guests ≡ Guest.End) × (new.guests ≡ others_of old.guests)
    × (new.turns ≡ old.turns ++ Turn.Came Guest.End ∷ []))

-- A guest came, and the session was broken off after a front of what was to be sent.
pub record SessionIsBroken (tells : Bool) (held : Held) (old new : AtDoor) : Type 0 where
  pub target : List ℕ
  pub sent : List (List ℕ)
  pub cut : IsSentInPart held (cursor_in target) sent
  pub guests : IsTrue tells → old.guests ≡ Guest.Target target ∷ new.guests
  pub turns : IsTrue tells → new.turns ≡ old.turns ++ Turn.Came (Guest.Target target)
      ∷ sendings sent
  pub counted : new.faults ≡ old.faults

-- what a fault leaves after the last session: nobody came where the door failed, and else nobody
-- came or a session was broken off
abbrev pub IsStopped : Bool → Held → Status → AtDoor → AtDoor → Type 0
IsStopped tells held Status.Door old new = IsStill tells old new
IsStopped tells held status old new = IsStill tells old new ⊎ SessionIsBroken tells held old new

-- One more guest was met: who came had a session, or nobody is to come any more, or it was stopped.
abbrev pub GuestAccepted : Bool → Held → AtDoor → AtDoor → Result (Option Session) Status → Type 0
GuestAccepted tells held old new (Ok (Some session)) = (v : Visit) × (v.session ≡ session)
    × Visited tells held (v ∷ []) old new
GuestAccepted tells held old new (Ok None) = NobodyComes tells old new
GuestAccepted tells held old new (Err status) = IsStopped tells held status old new
