-- The life of a machine that has a store: calls, failed calls, cuts, readings of its events,
-- openings, and crashes at any moment of them (own).
use Rattle.std.specs.Prelude.{◌≡◌, ◌≢◌, ◌⊎◌, ◌+◌, ◌<◌, ℕ, Bool, true, List, [], ◌∷◌, Option, Some, None, Result, Ok, Err, IsTrue, OnErr}
use Rattle.std.proofs.Common.{inl, inr}
use Rattle.relay_disk.specs.Disk.{View, IsSettled}
use Rattle.relay_disk.specs.Moments.{PairLeavesOnly}
use Rattle.gate_log.specs.Beside.{LeavesLive}
use Rattle.gate_log.specs.Image.{generation}
use Rattle.gate_log.specs.Pick.{other_side}
use Rattle.at_cid.specs.declared.limits.TheConstants.{NUMBERS}
use Rattle.gate_log.specs.declared.picking.Side.{Side}
use Rattle.at_event.specs.declared.refusal.Refusal.{Refusal}
use Rattle.relay_row.specs.declared.row.Row.{Row}
use Rattle.cut_law.specs.Cut.{cut, MayCut}
use Rattle.relay_step.specs.Around.{Around}
use Rattle.relay_step.specs.Asked.{AskedInVain}
use Rattle.relay_step.specs.Causes.{CameToNothing, OneTaken}
use Rattle.relay_step.specs.Steps.{rows}
use Rattle.relay_step.specs.Commands.{OperatedAt, SyncedAt, rows_commanded}
use Rattle.relay_step.specs.declared.command.CommandAnswer.{CommandAnswer}
use Rattle.store_take.specs.Batches.{Batched, scene}
use Rattle.store_cut.specs.Cutting.{IsEitherBeside}
use Rattle.store_cut.specs.declared.cutting.CutDone.{CutDone}
use Rattle.relay_store.specs.Opening.{Opened}
use Rattle.store_read.specs.Rereading.{IsReread}
use Rattle.relay_store.specs.Store.{StoreState, IsOf, Keeps, seen_in}
use Rattle.store_take.specs.Commands.{CommandDone, added}
use Rattle.store_take.specs.declared.done.Done.{Done}
use Rattle.relay_store.specs.declared.fault.StoreFault.{StoreFault}
use Rattle.store_take.specs.declared.message.Message.{Message}
use Rattle.store_take.specs.declared.outcome.Outcome.{Outcome}
use Rattle.relay_store.specs.declared.store.Store.{Store}

-- A machine between two calls: the store, where one is open, and the pair of disks.
pub record Machine (D : Type 0) : Type 0 where
  pub store : Option StoreState
  pub one : D
  pub two : D

-- the disk of a side
abbrev pub disk_of : {D : Type 0} → Side → Machine D → D
disk_of Side.One m = m.one
disk_of Side.Two m = m.two

-- the store is let go
abbrev pub stopped : {D : Type 0} → Machine D → Machine D
stopped m = record { store = None; one = m.one; two = m.two }

-- a failure of the disk closes the store
abbrev pub open_after : Option StoreFault → StoreState → Option StoreState
open_after (Some StoreFault.Disk) s = None
open_after fault s = Some s

-- the fault that is answered to an operator's command, if one is
abbrev pub fault_said : Result Done StoreFault → Option StoreFault
fault_said (Ok done) = None
fault_said (Err fault) = Some fault

-- the store that an opening gives, if it does, as contracts see it
abbrev pub store_in : Result Store StoreFault → Option StoreState
store_in (Ok s) = Some (seen_in s)
store_in (Err fault) = None

module _ {D : Type 0} (view : D → View) (tells : Bool) where
  -- Messages of hosts were taken, as `take_all` and `take` promise.
  pub record Takes (s s_now : StoreState) (d d_now : D) (fault : Option StoreFault) : Type 0 where
    pub clock_tells : Bool
    pub repos_tell : Bool
    pub around : Around
    pub around_now : Around
    pub group : List Message
    pub outcomes : List Outcome
    pub batched : (J : List Row) → IsOf J s.core
        → Batched view tells clock_tells repos_tell J group (scene s d around)
        (scene s_now d_now around_now) outcomes fault

  -- An account was taken down or restored, as `operate` promises.
  pub record Operates (s s_now : StoreState) (d d_now : D)
      (result : Result Done StoreFault) : Type 0 where
    pub clock_tells : Bool
    pub moments : List ℕ
    pub moments_now : List ℕ
    pub did : List ℕ
    pub down : Bool
    pub time : List ℕ
    pub commanded : (J : List Row) → IsOf J s.core
        → CommandDone view tells J (λ command.
        OperatedAt clock_tells s.core did down time moments command moments_now) (IsTrue clock_tells
        → OneTaken moments moments_now) s s_now d d_now result

  -- A repository was fetched, as `sync_now` promises.
  pub record Syncs (s s_now : StoreState) (d d_now : D)
      (result : Result Done StoreFault) : Type 0 where
    pub clock_tells : Bool
    pub repos_tell : Bool
    pub around : Around
    pub around_now : Around
    pub did : List ℕ
    pub time : List ℕ
    pub commanded : (J : List Row) → IsOf J s.core
        → CommandDone view tells J (λ command.
        SyncedAt clock_tells repos_tell s.core did time around command around_now)
        (CameToNothing clock_tells repos_tell
        (AskedInVain around.panel did around_now.panel) around around_now) s s_now d d_now result

  -- an operator's command was taken, and this was answered
  abbrev pub Says : StoreState → StoreState → D → D → Result Done StoreFault → Type 0
  Says s s_now d d_now result = Operates s s_now d d_now result ⊎ Syncs s s_now d d_now result

  -- a call, and the fault that it answers, if it does
  abbrev pub IsCall : StoreState → StoreState → D → D → Option StoreFault → Type 0
  IsCall s s_now d d_now fault = Takes s s_now d d_now fault
      ⊎ ((result : Result Done StoreFault) × (fault ≡ fault_said result)
      × Says s s_now d d_now result)

  -- the rows that a word added
  abbrev pub rows_of_command : (J : List Row) (is_command : CommandAnswer → Type 0)
      (failed : Type 0) (s s_now : StoreState) (d d_now : D) (result : Result Done StoreFault)
      → CommandDone view tells J is_command failed s s_now d d_now result → List Row
  rows_of_command J is_command failed s s_now d d_now result (inl said) =
      added result (rows_commanded said.0)
  rows_of_command J is_command failed s s_now d d_now result (inr unsaid) = []

  -- the rows of all that a call behind the journal J answered
  abbrev pub rows_answered : (J : List Row) (s s_now : StoreState) (d d_now : D)
      (fault : Option StoreFault) → IsOf J s.core → IsCall s s_now d d_now fault → List Row
  rows_answered J s s_now d d_now fault of (inl takes) = rows (takes.batched J of).steps
  rows_answered J s s_now d d_now fault of (inr (result, is, inl operates)) =
      rows_of_command J _ _ s s_now d d_now result (operates.commanded J of)
  rows_answered J s s_now d d_now fault of (inr (result, is, inr syncs)) =
      rows_of_command J _ _ s s_now d d_now result (syncs.commanded J of)

  -- A call of the open store: it has the disk of the store's side, and the other one is as it was.
  pub record Calls (s : StoreState) (old now : Machine D) : Type 0 where
    pub s_now : StoreState
    pub fault : Option StoreFault
    pub call : IsCall s s_now (disk_of s.side old) (disk_of s.side now) fault
    pub side : s_now.side ≡ s.side
    pub beside : disk_of (other_side s.side) now ≡ disk_of (other_side s.side) old
    pub store : now.store ≡ open_after fault s_now

  -- Events of the open store were given out, or not: the disk of its side was only read, as
  -- `next_after` promises, and the other one is as it was.
  pub record Rereads (s : StoreState) (old now : Machine D) : Type 0 where
    pub reread : IsReread tells s (view (disk_of s.side old)) (view (disk_of s.side now))
    pub beside : disk_of (other_side s.side) now ≡ disk_of (other_side s.side) old
    pub store : now.store ≡ Some s

  -- The store of the two disks is opened, or isn't.
  pub record Opens (old now : Machine D) : Type 0 where
    pub result : Result Store StoreFault
    pub opened : Opened tells (view old.one) (view old.two) (view now.one) (view now.two) result
    pub store : now.store ≡ store_in result

  -- The machine stops at some moments between old and now, and starts again with bytes that a crash
  -- there left on each disk.
  pub record Crashes (old now next : Machine D) : Type 0 where
    pub no_store : next.store ≡ None
    pub first : List ℕ
    pub second : List ℕ
    pub first_left : (view now.one).left_since (view old.one).moment first
    pub second_left : (view now.two).left_since (view old.two).moment second
    pub one_settled : IsSettled (view next.one) first
    pub two_settled : IsSettled (view next.two) second

-- the fault that is answered to a cut, if one is
abbrev pub fault_cut : Result CutDone StoreFault → Option StoreFault
fault_cut (Ok done) = None
fault_cut (Err fault) = Some fault

module _ {D : Type 0} (view : D → View) (tells : Bool) where
  -- The journal was to be cut at a number, on the disk of the store's side and the other, as `cut`
  -- promises.
  pub record CutAs (s s_now : StoreState) (number : ℕ) (disk other disk_now other_now : D)
      (result : Result CutDone StoreFault) : Type 0 where
    pub may : ((why : Refusal) → result ≢ Ok (CutDone.Refused why)) → IsTrue tells → (J : List Row)
        → Keeps J s (view disk) → MayCut J number × (generation s.log.format + 1 < NUMBERS)
    pub keeps : (oldest last : ℕ) → result ≡ Ok (CutDone.Cut oldest last) → IsTrue tells
        → (J : List Row) → Keeps J s (view disk) → Keeps (cut J number) s_now (view other_now)
    pub side : (oldest last : ℕ) → result ≡ Ok (CutDone.Cut oldest last)
        → s_now.side ≡ other_side s.side
    pub live : (oldest last : ℕ) → result ≡ Ok (CutDone.Cut oldest last) → IsTrue tells
        → LeavesLive s_now.side (view other_now) (view disk_now)
    pub moments : IsTrue tells → (J : List Row) → Keeps J s (view disk)
        → PairLeavesOnly (IsEitherBeside s.side J (cut J number)) (view disk) (view disk_now)
        (view other) (view other_now)
    pub as_before : OnErr result (result ≢ Err StoreFault.Disk → (s_now ≡ s)
        × (IsTrue tells → LeavesLive s.side (view disk_now) (view other_now)))
    pub kept : IsTrue tells → (J : List Row) → Keeps J s (view disk) → Keeps J s (view disk_now)

-- Lives in which journals are cut at numbers that pass.
module _ {D : Type 0} (view : D → View) (tells : Bool) (passes : ℕ → Bool) where
  -- A cut of the open store's journal at one of these numbers, done or failed. One that is refused
  -- touches nothing, and is no step.
  pub record Cuts (s : StoreState) (old now : Machine D) : Type 0 where
    pub s_now : StoreState
    pub number : ℕ
    pub at : passes number ≡ true
    pub result : Result CutDone StoreFault
    pub done : (why : Refusal) → result ≢ Ok (CutDone.Refused why)
    pub cuts : IsTrue tells → LeavesLive s.side (view (disk_of s.side old))
        (view (disk_of (other_side s.side) old))
        → CutAs view tells s s_now number (disk_of s.side old) (disk_of (other_side s.side) old)
        (disk_of s.side now) (disk_of (other_side s.side) now) result
    pub store : now.store ≡ open_after (fault_cut result) s_now

  -- a call of the store that is open, or a cut, or a reading of its events, or an opening where
  -- none is
  abbrev pub GoesFrom : Option StoreState → Machine D → Machine D → Type 0
  GoesFrom None old now = Opens view tells old now
  GoesFrom (Some s) old now = Calls view tells s old now
      ⊎ (Cuts s old now ⊎ Rereads view tells s old now)

  -- one of these, or the store is let go
  abbrev pub Goes : Machine D → Machine D → Type 0
  Goes old now = GoesFrom old.store old now ⊎ (now ≡ stopped old)

  -- what begins comes to its end, or a crash cuts it short
  abbrev pub Steps : Machine D → Machine D → Type 0
  Steps old next = (now : Machine D) × Goes old now
      × ((next ≡ now) ⊎ Crashes view tells old now next)

  -- machines, each of which follows the one before it by a step
  abbrev pub LivesFrom : Machine D → List (Machine D) → Type 0
  LivesFrom m [] = Unit {0}
  LivesFrom m (next ∷ others) = Steps m next × LivesFrom next others
