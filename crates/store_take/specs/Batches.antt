-- What taking messages of hosts does (own).
use Rattle.std.specs.Prelude.{◌≡◌, ◌≢◌, ◌⊎◌, ◌≤◌, ℕ, Bool, true, false, List, [], ◌∷◌, ◌++◌, length, map, Option, Some, None, Result, Ok, Err, IsTrue}
use Rattle.std.specs.List.{AllByRecursion}
use Rattle.at_authority.specs.Panels.{Panel}
use Rattle.at_event.specs.Frames.{frame_of}
use Rattle.relay_disk.specs.Disk.{View}
use Rattle.relay_disk.specs.Moments.{LeavesOnly}
use Rattle.gate_log.specs.Log.{LogState}
use Rattle.relay_row.specs.Journal.{IsJournal}
use Rattle.relay_row.specs.declared.row.Row.{Row}
use Rattle.relay_core.specs.Decide.{Checks}
use Rattle.relay_core.specs.Entries.{Holds}
use Rattle.relay_core.specs.Opening.{OpensRight}
use Rattle.relay_core.specs.declared.journal_state.Core.{Core}
use Rattle.relay_law.specs.Right.{LinksRight}
use Rattle.relay_step.specs.Around.{Around, AskedNothing, AllAsked}
use Rattle.relay_step.specs.Causes.{AskedInVainOf, CameToNothing, IsSpentFor}
use Rattle.relay_step.specs.Messages.{EndsNumbers}
use Rattle.relay_step.specs.Steps.{Step, rows, AreSteps}
use Rattle.relay_store.specs.Journals.{IsOneOf}
use Rattle.relay_store.specs.PendingBodies.{IsFull, end_of}
use Rattle.relay_store.specs.PendingBodies.{pending_end}
use Rattle.store_take.specs.Outcomes.{outcome_of}
use Rattle.relay_store.specs.Store.{StoreState, Keeps}
use Rattle.relay_store.specs.declared.fault.StoreFault.{StoreFault}
use Rattle.store_take.specs.declared.message.Message.{Message}
use Rattle.store_take.specs.declared.outcome.Outcome.{Outcome}

-- the messages of steps, as they were sent
abbrev pub messages_sent : List Step → List Message
messages_sent steps = map (λ s. record { host = s.host; bytes = s.bytes }) steps

-- Which fault leaves a step that was taken and whose row isn't in the body under way: one whose row
-- had no room, or found no memory. The disk's may come behind such a fault.
abbrev pub AreExtra : Option StoreFault → List Step → Type 0
AreExtra (Some (StoreFault.BadLog place)) extra = ⊥
AreExtra (Some (StoreFault.Full end)) extra = length extra ≡ 1
AreExtra (Some StoreFault.Memory) extra = length extra ≤ 1
AreExtra (Some StoreFault.Disk) extra = length extra ≤ 1
AreExtra fault extra = extra ≡ []

-- the host ended with this message
abbrev pub is_end : Outcome → Bool
is_end (Outcome.Ended end) = true
is_end o = false

-- none of them but the last is the end of its host
abbrev pub EndsLast : List Outcome → Type 0
EndsLast [] = Unit {0}
EndsLast (o ∷ outcomes) = (is_end o ≡ true → outcomes ≡ []) × EndsLast outcomes

abbrev pub NoneEnds : List Outcome → Type 0
NoneEnds outcomes = AllByRecursion (λ o. is_end o ≡ false) outcomes

-- a host ended with the last of them
abbrev pub HasEnd : List Outcome → Type 0
HasEnd outcomes = (front : List Outcome) × (o : Outcome) × (outcomes ≡ front ++ o ∷ [])
    × (is_end o ≡ true)

-- what was asked of the judges for the next message, in vain
abbrev pub InVain : List Message → Panel → Panel → Type 0
InVain [] old new = new ≡ old
InVain (m ∷ behind) old new = AskedInVainOf old (frame_of m.bytes) new

-- what was asked behind the steps where a fault came: nothing where a step is left over, and else
-- for the next message, in vain
abbrev pub AsksBehind : Bool → Bool → List Step → List Message → Around → Around → Type 0
AsksBehind clock_tells repos_tell [] behind old new =
    CameToNothing clock_tells repos_tell (InVain behind old.panel new.panel) old new
AsksBehind clock_tells repos_tell (s ∷ extra) behind old new =
    AskedNothing clock_tells repos_tell old new

-- what was asked behind the steps: nothing, unless a fault came
abbrev pub StopsAsking : Bool → Bool → Option StoreFault → List Step → List Message → Around
    → Around → Type 0
StopsAsking clock_tells repos_tell None extra behind old new =
    AskedNothing clock_tells repos_tell old new
StopsAsking clock_tells repos_tell (Some fault) extra behind old new =
    AsksBehind clock_tells repos_tell extra behind old new

-- what the steps and the next message asked
pub record AskedInTurn (clock_tells repos_tell : Bool) (J : List Row) (old : Around)
    (steps extra : List Step)
    (fault : Option StoreFault) (behind : List Message) (new : Around) : Type 0 where
  pub mid : Around
  pub turns : AllAsked clock_tells repos_tell J old (steps ++ extra) mid
  pub stops : StopsAsking clock_tells repos_tell fault extra behind mid new

-- the log had no room for the row of the step behind those in the body
abbrev pub EndsFull : LogState → List Step → List Step → Option StoreFault → Type 0
EndsFull log steps extra (Some (StoreFault.Full e)) = (row : Row) × (rows extra ≡ row ∷ [])
    × IsFull log (rows steps) row e
EndsFull log steps extra fault = Unit {0}

-- what is answered to steps: after a failure of the disk nothing
abbrev pub AreAnswers : Option StoreFault → List Step → List Outcome → Type 0
AreAnswers (Some StoreFault.Disk) steps outcomes = outcomes ≡ []
AreAnswers fault steps outcomes = map Some outcomes ≡ map outcome_of steps

-- for the next message the numbers end, or no authority is left
abbrev pub EndsNext : Bool → Bool → Core → List Message → Around → Around → Option StoreFault
    → Type 0
EndsNext clock_tells repos_tell core [] old new (Some StoreFault.SeqEnd) = ⊥
EndsNext clock_tells repos_tell core (m ∷ behind) old new (Some StoreFault.SeqEnd) =
    EndsNumbers clock_tells repos_tell core old m.host (frame_of m.bytes) new
EndsNext clock_tells repos_tell core [] old new (Some StoreFault.Authority) = ⊥
EndsNext clock_tells repos_tell core (m ∷ behind) old new (Some StoreFault.Authority) =
    IsSpentFor core m.host (frame_of m.bytes) new.panel
EndsNext clock_tells repos_tell core behind old new fault = Unit {0}

-- what a store was, and what it and its disk are now
pub record Scene (D : Type 0) : Type 0 where
  pub store : StoreState
  pub disk : D
  pub around : Around

abbrev pub scene : {D : Type 0} → StoreState → D → Around → Scene D
scene store disk around = record { store = store; disk = disk; around = around }

-- Messages of hosts were taken behind the journal J, and this was answered.
pub record Batched {D : Type 0} (view : D → View) (tells clock_tells repos_tell : Bool)
    (J : List Row) (group : List Message) (old new : Scene D) (outcomes : List Outcome)
    (fault : Option StoreFault) : Type 0 where
  -- the steps whose rows are in the body under way, and one behind them whose row isn't: each is
  -- what comes of its message behind the rows before it
  pub steps : List Step
  pub extra : List Step
  pub which : AreExtra fault extra
  pub are : (checks : Checks) → OpensRight checks → LinksRight checks
      → AreSteps checks J [] (steps ++ extra)
  pub journal : IsJournal (J ++ rows (steps ++ extra))
  -- they are of the messages in front of the group: of all, unless a fault came or a host ended,
  -- which none but the last did
  pub behind : List Message
  pub front : group ≡ messages_sent (steps ++ extra) ++ behind
  pub answers : AreAnswers fault steps outcomes
  pub ends : EndsLast outcomes
  pub all : fault ≡ None → (behind ≡ []) ⊎ HasEnd outcomes
  -- a fault leaves a message over: the one that it came at, unless its step is left over
  pub left : fault ≢ None → fault ≢ Some StoreFault.Disk → extra ≡ [] → behind ≢ []
  -- what was asked, in turn
  pub asked : AskedInTurn clock_tells repos_tell J old.around steps extra fault behind new.around
  -- each row in the body had room, and a row that hadn't ends the steps
  pub room : (rows steps ≡ []) ⊎ (end_of old.store.log.end (rows steps) ≤ old.store.log.most)
  pub full : EndsFull old.store.log steps extra fault
  pub next : EndsNext clock_tells repos_tell new.store.core behind asked.mid new.around fault
  -- the log is of the format that it had, and may go as far
  pub format : new.store.log.format ≡ old.store.log.format
  pub most : new.store.log.most ≡ old.store.log.most
  -- the next body goes behind the one of the rows
  pub end : fault ≢ Some StoreFault.Disk
      → new.store.log.end ≡ pending_end old.store.log.end (rows steps)
  -- after every fault but the disk's the rows of the steps are known, and the disk holds them
  pub known : fault ≢ Some StoreFault.Disk → Holds new.store.core (J ++ rows steps)
  pub keeps : fault ≢ Some StoreFault.Disk → IsTrue tells → Keeps J old.store (view old.disk)
      → Keeps (J ++ rows steps) new.store (view new.disk)
  -- where there are none, the disk is as it was, and so is all that is known
  pub untouched : rows steps ≡ [] → (new.store.log ≡ old.store.log)
      × ((new.store.window ≡ old.store.window) × (new.disk ≡ old.disk))
  -- a crash at any moment leaves the journal, with all rows of the body under way or without
  pub moments : IsTrue tells → Keeps J old.store (view old.disk)
      → LeavesOnly (IsOneOf old.store.log.format J (rows steps)) (view old.disk) (view new.disk)

-- The disk failed, and where no message is left over, nothing that was asked failed.
pub record DiskFailed {D : Type 0} (view : D → View) (tells clock_tells repos_tell : Bool)
    (J : List Row) (group : List Message) (old new : Scene D) (none_failed : Type 0) : Type 0 where
  pub batched : Batched view tells clock_tells repos_tell J group old new []
      (Some StoreFault.Disk)
  pub alone : batched.behind ≡ [] → none_failed

abbrev pub message_from : List ℕ → List ℕ → Message
message_from host bytes = record { host = host; bytes = bytes }

-- what is answered to one message, as to a group
abbrev pub outcomes_in : Result Outcome StoreFault → List Outcome
outcomes_in (Ok o) = o ∷ []
outcomes_in (Err fault) = []

abbrev pub fault_in : Result Outcome StoreFault → Option StoreFault
fault_in (Ok o) = None
fault_in (Err fault) = Some fault
