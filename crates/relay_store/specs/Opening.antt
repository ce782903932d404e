-- What opening a store finds (own).
use Rattle.std.specs.Prelude.{◌≡◌, ◌≢◌, ⊤, ℕ, Bool, List, ◌∷◌, ◌++◌, length, Result, Err, IsTrue, IfOk}
use Rattle.event_window.specs.declared.place.Place.{Place}
use Rattle.relay_disk.specs.Disk.{View, Goes, Same}
use Rattle.relay_disk.specs.Moments.{PairLeavesOnly}
use Rattle.gate_log.specs.Image.{IsUnmade, made}
use Rattle.gate_log.specs.Log.{LogState}
use Rattle.gate_log.specs.Log.{HoldsBodies as HasBodies}
use Rattle.gate_log.specs.Pick.{IsPicked, LeavesSide, of_side, other_side, view_of_side}
use Rattle.gate_log.specs.declared.format.Format.{Format}
use Rattle.row_codec.specs.Bodies.{IsBody}
use Rattle.relay_row.specs.Journal.{IsJournal}
use Rattle.row_codec.specs.Left.{RowsLeft, AreInFront}
use Rattle.relay_row.specs.declared.row.Row.{Row}
use Rattle.relay_core.specs.declared.journal_state.Core.{Core}
use Rattle.relay_core.specs.Entries.{Holds}
use Rattle.relay_store.specs.Journals.{AllBodies, LeavesPairJournals, IsPairJournalOfOne, IsPairImageOf, bytes_of, joined}
use Rattle.relay_store.specs.Places.{places_in, places_of}
use Rattle.relay_store.specs.Store.{Keeps, seen_in}
use Rattle.relay_store.specs.declared.fault.StoreFault.{StoreFault}
use Rattle.relay_store.specs.declared.store.Store.{Store}

-- Two disks were only read: they hold what they held, and so does all that a crash may leave.
pub record BothOnlyRead (one two one_now two_now : View) : Type 0 where
  pub first : Goes Same one one_now
  pub second : Goes Same two two_now

-- An opening of the store of two disks, whatever it answers.
pub record Opened (tells : Bool) (one two one_now two_now : View)
    (result : Result Store StoreFault) : Type 0 where
  -- the store's journal is the one of which the pair is an image
  pub keeps : IfOk result (λ s. IsTrue tells → (J : List Row)
      × IsPairImageOf J one.content two.content
      × Keeps J (seen_in s) (view_of_side s.side one_now two_now))
  -- its side was picked of what the disks held, and is of all that a crash now may leave
  pub picked : IfOk result (λ s. IsTrue tells → IsPicked one.content two.content s.side)
  pub side : IfOk result (λ s. IsTrue tells → LeavesSide s.side one_now two_now)
  -- the other side was only read
  pub beside : IfOk result (λ s. Goes Same (view_of_side (other_side s.side) one two)
      (view_of_side (other_side s.side) one_now two_now))
  -- so was its own, unless the store was made there
  pub only_read : IfOk result (λ s. IsTrue tells
      → (IsUnmade (of_side s.side one.content two.content) → ⊥)
      → Goes Same (view_of_side s.side one two) (view_of_side s.side one_now two_now))
  -- whatever moments a crash strikes the two at, it leaves an image of one of the journals that one
  -- before could leave
  pub moments : IsTrue tells → LeavesPairJournals one two
      → PairLeavesOnly (IsPairJournalOfOne one two) one one_now two two_now
  -- where it comes to no store, and no call of a disk failed, both were only read: a damaged log
  -- stays as it is
  pub read : (fault : StoreFault) → result ≡ Err fault → fault ≢ StoreFault.Disk → IsTrue tells
      → BothOnlyRead one two one_now two_now

-- The rows of the body at this place are applied, behind the journal J.
pub record IsApplied (place : ℕ) (body : List ℕ) (J : List Row) (state : Core)
    (places places_now : List Place) : Type 0 where
  pub rows : List Row
  pub is : IsBody rows body
  pub journal : IsJournal (J ++ rows)
  pub core : Holds state (J ++ rows)
  pub window : places_now ≡ places ++ places_in place 0 rows

-- These rows of the body at this place were applied, behind every journal that was known, and they
-- keep its order.
pub record AreApplied (place : ℕ) (rows : List Row) (state state_now : Core)
    (places places_now : List Place) : Type 0 where
  pub core : (J : List Row) → Holds state J → Holds state_now (J ++ rows)
  pub journal : (J : List Row) → Holds state J → IsJournal J → IsJournal (J ++ rows)
  pub window : places_now ≡ places ++ places_in place 0 rows

-- while the rows of the body at this place are applied: so many are, and that is left
pub record IsApplying (place index : ℕ) (was left : RowsLeft) (state state_now : Core)
    (places places_now : List Place) : Type 0 where
  pub done : List Row
  pub read : AreInFront done was left
  pub count : index ≡ length done
  pub applied : AreApplied place done state state_now places places_now

-- the body is none of rows that come behind the journal J
abbrev pub IsBadBody : List Row → List ℕ → Type 0
IsBadBody J body = (rows : List Row) → IsBody rows body → IsJournal (J ++ rows) → ⊥

-- bodies of a journal, all of which is known
pub record IsLoaded (format : Format) (bodies : List (List ℕ)) (state : Core)
    (places : List Place) : Type 0 where
  pub found : List (List Row)
  pub bytes_are : bytes_of found ≡ bodies
  pub each : AllBodies found
  pub journal : IsJournal (joined found)
  pub core : Holds state (joined found)
  pub window : places ≡ places_of format found

-- one of the bodies is bad, and this is its place
pub record IsBadAmong (place : ℕ) (format : Format) (bodies : List (List ℕ)) : Type 0 where
  pub before : List (List Row)
  pub body : List ℕ
  pub behind : List (List ℕ)
  pub split : bodies ≡ bytes_of before ++ body ∷ behind
  pub each : AllBodies before
  pub journal : IsJournal (joined before)
  pub here : place ≡ length (made format (bytes_of before))
  pub bad : IsBadBody (joined before) body

-- the bodies up to this place are known
pub record IsFrontOf (format : Format) (bodies : List (List ℕ)) (place : ℕ) (state : Core)
    (places : List Place) : Type 0 where
  pub before : List (List Row)
  pub rest : List (List ℕ)
  pub split : bodies ≡ bytes_of before ++ rest
  pub here : place ≡ length (made format (bytes_of before))
  pub each : AllBodies before
  pub journal : IsJournal (joined before)
  pub core : Holds state (joined before)
  pub window : places ≡ places_of format before

-- while bodies are read back
pub record IsLoading (tells : Bool) (log : LogState) (old now : View) (place : ℕ) (core : Core)
    (window : List Place) : Type 0 where
  pub goes : Goes Same old now
  pub holds : IsTrue tells → (bodies : List (List ℕ)) → HasBodies bodies log old
      → HasBodies bodies log now
  pub so_far : IsTrue tells → (bodies : List (List ℕ)) → HasBodies bodies log old
      → IsFrontOf log.format bodies place core window
  pub steady : now.faults ≡ old.faults

-- what reading may answer
abbrev pub IsOfReading : StoreFault → Type 0
IsOfReading StoreFault.Disk = ⊤
IsOfReading (StoreFault.BadLog place) = ⊤
IsOfReading (StoreFault.Full end) = ⊥
IsOfReading StoreFault.SeqEnd = ⊥
IsOfReading StoreFault.Authority = ⊥
IsOfReading StoreFault.Repos = ⊥
IsOfReading StoreFault.Memory = ⊤
IsOfReading StoreFault.Clock = ⊥
