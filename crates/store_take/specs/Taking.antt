-- What one message comes to, ahead of the disk, and messages one after another (own).
use Rattle.std.specs.Prelude.{◌≡◌, ◌≢◌, ◌⊎◌, ◌≤◌, ◌+◌, ⊤, ℕ, Bool, true, List, [], ◌∷◌, ◌++◌, length, map, Option, Some, None, Result, Ok, Err}
use Rattle.std.specs.List.{list_all}
use Rattle.at_syntax.specs.Host.{is_host}
use Rattle.at_event.specs.Frames.{frame_of}
use Rattle.event_window.specs.declared.place.Place.{Place}
use Rattle.gate_log.specs.Log.{LogState}
use Rattle.relay_row.specs.declared.row.Row.{Row}
use Rattle.relay_core.specs.Decide.{Checks}
use Rattle.relay_core.specs.Entries.{Holds}
use Rattle.relay_core.specs.Opening.{OpensRight}
use Rattle.relay_core.specs.declared.journal_state.Core.{Core}
use Rattle.relay_law.specs.Right.{LinksRight}
use Rattle.relay_step.specs.Around.{Around, AllAsked}
use Rattle.relay_step.specs.Causes.{AskedInVainOf, CameToNothing, IsSpentFor}
use Rattle.relay_step.specs.Messages.{EndsNumbers, IsAsked, IsDecided, KeepsJournal}
use Rattle.relay_step.specs.Steps.{Step, Decided, rows, rows_decided, step_of, AreSteps, ended_by_all}
use Rattle.store_take.specs.Batches.{AreExtra, AskedInTurn, EndsFull, EndsLast, EndsNext, HasEnd, NoneEnds, messages_sent}
use Rattle.relay_store.specs.PendingBodies.{Fits, HasRows, IsFull, IsUnchanged}
use Rattle.relay_store.specs.Faults.{IsCause}
use Rattle.store_take.specs.Outcomes.{outcome_of, outcome_decided}
use Rattle.relay_store.specs.Places.{places_in}
use Rattle.relay_store.specs.declared.pending.Pending.{Pending}
use Rattle.relay_store.specs.declared.fault.StoreFault.{StoreFault}
use Rattle.store_take.specs.declared.message.Message.{Message}
use Rattle.store_take.specs.declared.outcome.Outcome.{Outcome}

-- Rows are applied, and stand in the pending batch.
pub record AreAdded (end : ℕ) (rows : List Row) (state state_now : Core)
    (places places_now : List Place) (d d_now : Pending) : Type 0 where
  pub core : (J : List Row) → Holds state J → Holds state_now (J ++ rows)
  pub window : places_now ≡ places ++ places_in end d.count rows
  pub pending : (before : List Row) → HasRows before d → HasRows (before ++ rows) d_now

-- what a message comes to, and what was asked
pub record IsTaken (clock_tells repos_tell : Bool) (core : Core) (host message : List ℕ)
    (told : Decided) (old new : Around) : Type 0 where
  pub decided : IsDecided core host (frame_of message) told
  pub asked : IsAsked clock_tells repos_tell core old (step_of host message told) new
  pub journal : KeepsJournal core (rows_decided told)

-- which faults come of a message alone
abbrev pub ComesOfAsking : StoreFault → Type 0
ComesOfAsking StoreFault.Disk = ⊥
ComesOfAsking (StoreFault.BadLog place) = ⊥
ComesOfAsking (StoreFault.Full end) = ⊥
ComesOfAsking fault = ⊤

-- such a fault
pub record IsInVain (clock_tells repos_tell : Bool) (core core_now : Core) (host message : List ℕ)
    (old new : Around) (fault : StoreFault) : Type 0 where
  pub of_asking : ComesOfAsking fault
  pub same : core_now ≡ core
  pub asked : CameToNothing clock_tells repos_tell
      (AskedInVainOf old.panel (frame_of message) new.panel) old new
  pub ends : IsCause (EndsNumbers clock_tells repos_tell core old host (frame_of message) new)
      (IsSpentFor core host (frame_of message) new.panel) ⊤ ⊤ fault

-- a fault that comes behind its decision: its row had no room, or memory ran out
abbrev pub IsTooLate : LogState → Pending → Decided → StoreFault → Type 0
IsTooLate log d told StoreFault.Memory = Unit {0}
IsTooLate log d told (StoreFault.Full e) = (row : Row) × (rows_decided told ≡ row ∷ [])
    × ((before : List Row) → HasRows before d → IsFull log before row e)
IsTooLate log d told fault = ⊥

-- One message, ahead of the disk.
abbrev pub Prepared : Bool → Bool → LogState → List ℕ → List ℕ → Core → Core → List Place
    → List Place → Pending → Pending → Around → Around → Result Outcome StoreFault → Type 0
Prepared clock_tells repos_tell log host message core core_now window window_now d d_now old new
    (Ok o) =
    (told : Decided) × IsTaken clock_tells repos_tell core host message told old new
    × (outcome_decided (frame_of message) told ≡ Some o)
    × AreAdded log.end (rows_decided told) core core_now window window_now d d_now
Prepared clock_tells repos_tell log host message core core_now window window_now d d_now old new
    (Err fault) =
    IsUnchanged core core_now window window_now d d_now
    × (IsInVain clock_tells repos_tell core core_now host message old new fault
    ⊎ ((told : Decided) × IsTaken clock_tells repos_tell core host message told old new
    × IsTooLate log d told fault))

-- Messages were taken, ahead of the disk, and these are left.
pub record Gathered (clock_tells repos_tell : Bool) (log : LogState) (group left : List Message)
    (state state_now : Core) (places places_now : List Place) (d_now : Pending) (old now : Around)
    (outcomes : List Outcome) : Type 0 where
  pub steps : List Step
  pub front : group ≡ messages_sent steps ++ left
  pub are : (checks : Checks) (J : List Row) → OpensRight checks → LinksRight checks → Holds state J
      → AreSteps checks J [] steps
  pub journal : KeepsJournal state (rows steps)
  pub answers : map Some outcomes ≡ map outcome_of steps
  pub asked : (J : List Row) → Holds state J → AllAsked clock_tells repos_tell J old steps now
  pub core : (J : List Row) → Holds state J → Holds state_now (J ++ rows steps)
  pub window : places_now ≡ places ++ places_in log.end 0 (rows steps)
  pub pending : HasRows (rows steps) d_now
  pub few : length (rows steps) + length left ≤ length group
  pub fits : Fits log d_now

-- while none has ended its host
pub record IsGathering (clock_tells repos_tell : Bool) (log : LogState) (group left : List Message)
    (core core_now : Core) (window window_now : List Place) (d_now : Pending) (old now : Around)
    (outcomes : List Outcome) : Type 0 where
  pub gathered : Gathered clock_tells repos_tell log group left core core_now window window_now
      d_now old now outcomes
  pub none_ended : (checks : Checks) (J : List Row) → OpensRight checks → LinksRight checks
      → Holds core J → ended_by_all gathered.steps [] ≡ []
  pub none_ends : NoneEnds outcomes

-- Messages were taken, ahead of the disk, up to a fault or to the end of a host.
pub record Stopped (clock_tells repos_tell : Bool) (log : LogState) (group : List Message)
    (core core_now : Core) (window window_now : List Place) (d_now : Pending) (old new : Around)
    (outcomes : List Outcome) (fault : Option StoreFault) : Type 0 where
  pub left : List Message
  pub now : Around
  pub gathered : Gathered clock_tells repos_tell log group left core core_now window window_now
      d_now old now outcomes
  pub extra : List Step
  pub behind : List Message
  pub which : AreExtra fault extra
  pub next : left ≡ messages_sent extra ++ behind
  pub are : (checks : Checks) (J : List Row) → OpensRight checks → LinksRight checks → Holds core J
      → AreSteps checks J [] (gathered.steps ++ extra)
  pub journal : KeepsJournal core (rows (gathered.steps ++ extra))
  pub ends : EndsLast outcomes
  pub all : fault ≡ None → (behind ≡ []) ⊎ HasEnd outcomes
  pub some_left : fault ≢ None → extra ≡ [] → behind ≢ []
  pub asked : (J : List Row) → Holds core J
      → AskedInTurn clock_tells repos_tell J old gathered.steps extra fault behind new
  pub full : EndsFull log gathered.steps extra fault
  pub ends_next : (J : List Row) → (holds : Holds core J)
      → EndsNext clock_tells repos_tell core_now behind (asked J holds).mid new fault

-- each is of a host's name
abbrev pub AreOfHosts : List Message → Type 0
AreOfHosts group = list_all (λ m. is_host m.host) group ≡ true
