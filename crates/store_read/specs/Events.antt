-- What is told of the events of a journal, as their rows are read back (own).
use Rattle.std.specs.Prelude.{◌≡◌, ℕ, Bool, true, List, ◌∷◌, ◌++◌, length, drop, Option, Some, IsTrue}
use Rattle.std.specs.List.{Contains, list_all}
use Rattle.event_window.specs.Held.{Held}
use Rattle.event_window.specs.declared.place.Place.{Place}
use Rattle.relay_disk.specs.Disk.{View, Goes, Same}
use Rattle.gate_log.specs.declared.format.Format.{Format}
use Rattle.gate_log.specs.Image.{made}
use Rattle.gate_log.specs.Log.{LogState, IsOn}
use Rattle.gate_log.specs.Log.{HoldsBodies as HasBodies}
use Rattle.row_codec.specs.Bodies.{encoded_rows}
use Rattle.relay_row.specs.Folds.{events_in}
use Rattle.relay_row.specs.Rules.{is_row}
use Rattle.relay_row.specs.declared.row.Row.{Row}
use Rattle.row_peek.specs.Passing.{ended_row}
use Rattle.row_peek.specs.Peeking.{event_at}
use Rattle.relay_core.specs.Entries.{Holds}
use Rattle.relay_core.specs.declared.journal_state.Core.{Core}
use Rattle.relay_store.specs.Journals.{AllBodies, bytes_of}
use Rattle.relay_store.specs.Shown.{held_by, is_shown, shown_of}
use Rattle.relay_store.specs.Store.{StoreState, Keeps}
use Rattle.relay_store.specs.Events.{message_of, AllStand}

-- where one is in a log: the place of a body, the index of one of its rows, and the bytes from that
-- row on
pub record BufferState : Type 0 where
  pub place : ℕ
  pub index : ℕ
  pub left : List ℕ

-- Where one of these bodies stands at the place, the bytes are those of its rows from the index on.
abbrev pub IsBufferOf : Format → List (List Row) → BufferState → Type 0
IsBufferOf format bodies buffer = (before : List (List Row)) (there : List Row)
    (after : List (List Row))
    → bodies ≡ before ++ there ∷ after → buffer.place ≡ length (made format (bytes_of before))
    → buffer.left ≡ encoded_rows (drop buffer.index there)

-- The disk is the one that the store is open on, these are the events of its journal, and the
-- buffer is one of its bodies.
abbrev pub HasEvents : StoreState → View → BufferState → Held → Type 0
HasEvents s v buffer held = (J : List Row) × (keeps : Keeps J s v) × (held ≡ held_by J)
    × IsBufferOf s.log.format keeps.bodies buffer

-- Where the bytes of a body from one place on are rows, those from another on are the rows behind
-- the first.
abbrev pub BeginsNext : List ℕ → ℕ → ℕ → Type 0
BeginsNext body at next = (rows : List Row) → list_all is_row rows ≡ true
    → drop at body ≡ encoded_rows rows → drop next body ≡ encoded_rows (drop 1 rows)

-- What is told of a row's event as the journal J stands: whether it is shown, and where it is, its
-- message is in the room.
pub record IsToldOf (J : List Row) (row : Row) (shown : Bool) (room : List ℕ) : Type 0 where
  pub is : shown ≡ is_shown J row
  pub message : shown ≡ true → room ≡ message_of (events_in row)

-- the row at the front of these bytes ends as one of a body does
abbrev pub EndsThere : List ℕ → Type 0
EndsThere left = (rest : List ℕ) × (ended_row left ≡ Some rest)

-- Of any disk: the event that is seen of the row at the front of these bytes has this number, and
-- where it is shown, its message is in the room; and the row ends as one of a body does.
pub record IsReadAs (left : List ℕ) (seq : ℕ) (shown : Bool) (room : List ℕ) : Type 0 where
  pub message : List ℕ
  pub seen : event_at left ≡ Some (seq, message)
  pub ends : EndsThere left
  pub given : shown ≡ true → room ≡ message

-- At the front of these bytes an event is seen that has this message, and a number that is kept at
-- one of these places.
abbrev pub IsReadOf : List Place → List ℕ → ℕ → List ℕ → Type 0
IsReadOf places left n message = (p : Place) × Contains places p × (p.seq ≡ n)
    × IsReadAs left n true message

-- The rows at the places that are left come behind others of which none is shown.
pub record IsRest (tells : Bool) (log : LogState) (core : Core) (v : View)
    (bodies : List (List Row)) (left : List Place) (rows : List Row) : Type 0 where
  pub rest : List Row
  pub stand : AllStand log.format bodies left rest
  pub same : IsTrue tells → (J : List Row) → AllBodies bodies → HasBodies (bytes_of bodies) log v
      → Holds core J → shown_of J rows ≡ shown_of J rest

-- while the first event that is shown is searched for, from a buffer on
pub record IsSearching (tells : Bool) (log : LogState) (core : Core) (old now : View)
    (buffer buffer_now : BufferState) (damage damage_now : Option ℕ)
    (places left : List Place) : Type 0 where
  pub undamaged : damage_now ≡ damage
  pub goes : Goes Same old now
  pub steady : now.faults ≡ old.faults
  pub holds : IsTrue tells → (bodies : List (List ℕ)) → HasBodies bodies log old
      → HasBodies bodies log now
  pub on : IsTrue tells → IsOn now log
  pub fits : IsTrue tells → (bodies : List (List Row)) → AllBodies bodies
      → HasBodies (bytes_of bodies) log old → IsBufferOf log.format bodies buffer
      → IsBufferOf log.format bodies buffer_now
  pub within : (p : Place) → Contains left p → Contains places p
  pub rest : (bodies : List (List Row)) (rows : List Row) → IsBufferOf log.format bodies buffer
      → AllStand log.format bodies places rows → IsRest tells log core old bodies left rows
