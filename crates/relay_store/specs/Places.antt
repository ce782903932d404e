-- Where the events of a journal stand in a log (own).
use Rattle.std.specs.Prelude.{ℕ, ◌+◌, List, [], ◌∷◌, ◌++◌, length, ◌==◌, if◌then◌else◌}
use Rattle.event_window.specs.declared.place.Place.{Place}
use Rattle.gate_log.specs.declared.format.Format.{Format}
use Rattle.gate_log.specs.Image.{made}
use Rattle.relay_row.specs.Folds.{events_in, first_seq}
use Rattle.relay_row.specs.declared.row.Row.{Row}
use Rattle.relay_store.specs.Journals.{bytes_of}

-- the number of the event that a row sends out, or 0
abbrev pub number_in : Row → ℕ
number_in row = first_seq (events_in row)

-- the place of the event of a row, if it sends one out, at an index of the body at a place
abbrev pub place_of : ℕ → ℕ → Row → List Place
place_of place index row = if number_in row == 0 then []
    else record { seq = number_in row; place = place; index = index } ∷ []

-- those of rows of the body at a place, from an index on
abbrev pub places_in : ℕ → ℕ → List Row → List Place
places_in place index [] = []
places_in place index (row ∷ rows) = place_of place index row ++ places_in place (index + 1) rows

-- those of bodies that stand behind others in a log
abbrev pub places_behind : Format → List (List Row) → List (List Row) → List Place
places_behind format before [] = []
places_behind format before (rows ∷ bodies) =
    places_in (length (made format (bytes_of before))) 0 rows
    ++ places_behind format (before ++ rows ∷ []) bodies

abbrev pub places_of : Format → List (List Row) → List Place
places_of format bodies = places_behind format [] bodies
