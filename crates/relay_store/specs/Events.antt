-- Where the events of a journal are found again (own).
use Rattle.std.specs.Prelude.{◌≡◌, ℕ, List, [], ◌∷◌, ◌++◌, length, slice_get, Option, Some, None}
use Rattle.event_window.specs.Held.{Event}
use Rattle.event_window.specs.declared.place.Place.{Place}
use Rattle.gate_log.specs.declared.format.Format.{Format}
use Rattle.gate_log.specs.Image.{made}
use Rattle.relay_row.specs.Folds.{events_in}
use Rattle.relay_row.specs.declared.row.Row.{Row}
use Rattle.relay_store.specs.Journals.{bytes_of}

-- the message of the first of events, if there is one
abbrev pub message_of : List Event → List ℕ
message_of [] = []
message_of (event ∷ others) = event.1

-- A row stands at a place: at its index of the body there. It sends out the event of that number.
pub record StandsAt (format : Format) (bodies : List (List Row)) (p : Place)
    (row : Row) : Type 0 where
  pub before : List (List Row)
  pub rows : List Row
  pub after : List (List Row)
  pub split : bodies ≡ before ++ rows ∷ after
  pub here : p.place ≡ length (made format (bytes_of before))
  pub row_at : slice_get rows p.index ≡ Some row
  pub sends : events_in row ≡ (p.seq, message_of (events_in row)) ∷ []

-- These rows stand at these places, one at each.
abbrev pub AllStand : Format → List (List Row) → List Place → List Row → Type 0
AllStand format bodies [] rows = rows ≡ []
AllStand format bodies (p ∷ places) [] = ⊥
AllStand format bodies (p ∷ places) (row ∷ rows) = StandsAt format bodies p row
    × AllStand format bodies places rows

-- This is the first of events, and its message is in the room.
abbrev pub IsFirst : List Event → Option ℕ → List ℕ → Type 0
IsFirst events None room = events ≡ []
IsFirst events (Some n) room = (others : List Event) × (events ≡ (n, room) ∷ others)
