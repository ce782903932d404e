-- The body that is put together while steps are taken, and what is known ahead of the disk (own).
use Rattle.std.specs.Prelude.{◌≡◌, ◌⊎◌, ℕ, ◌+◌, ◌<◌, ◌≤◌, List, [], ◌∷◌, ◌++◌, length, take, drop, ◌==◌, if◌then◌else◌}
use Rattle.at_cbor.specs.declared.major.Major.{Major}
use Rattle.at_cbor.specs.Encoding.{front_of}
use Rattle.event_window.specs.declared.place.Place.{Place}
use Rattle.relay_disk.specs.Disk.{View}
use Rattle.gate_log.specs.PendingBodies.{body_in}
use Rattle.gate_log.specs.Log.{LogState}
use Rattle.gate_log.specs.Log.{HoldsBodies as HasBodies}
use Rattle.gate_log.specs.declared.pending_bodies.TheConstants.{AHEAD}
use Rattle.gate_log.specs.declared.limits.TheConstants.{AROUND_BODY, BEFORE_BODY, BODY_LENGTHS}
use Rattle.row_codec.specs.Bodies.{rows_body, row_encoding, encoded_rows}
use Rattle.relay_row.specs.Journal.{IsJournal}
use Rattle.relay_row.specs.declared.row.Row.{Row}
use Rattle.relay_core.specs.declared.journal_state.Core.{Core}
use Rattle.relay_core.specs.Entries.{Holds}
use Rattle.relay_store.specs.Journals.{AreBodiesOf, bytes_of}
use Rattle.relay_store.specs.Places.{place_of, places_in, places_of}
use Rattle.relay_store.specs.declared.pending.Pending.{Pending}

-- the bytes of a pending batch: the front of a list of its rows, and the rows
abbrev pub pending_body : Pending → List ℕ
pending_body d = body_in (front_of Major.List d.count) d.body

-- The pending batch has these rows.
pub record HasRows (rows : List Row) (d : Pending) : Type 0 where
  pub begun : AHEAD ≤ length d.body
  pub encoded_are : drop AHEAD d.body ≡ encoded_rows rows
  pub count : d.count ≡ length rows

-- there is room in the log for the pending batch, if it has rows
abbrev pub Fits : LogState → Pending → Type 0
Fits log d = (d.count ≡ 0) ⊎ ((log.end + AROUND_BODY + length (pending_body d) ≤ log.most)
    × (length (pending_body d) < BODY_LENGTHS))

-- where a body of rows ends, with the closed gate behind it
abbrev pub end_of : ℕ → List Row → ℕ
end_of end rows = end + AROUND_BODY + length (rows_body rows)

-- where the next body goes behind one of rows, if there are some
abbrev pub pending_end : ℕ → List Row → ℕ
pending_end end [] = end
pending_end end (row ∷ rows) = end + BEFORE_BODY + length (rows_body (row ∷ rows))

-- The log has no room for a body of the rows and of one more: as a body of its own behind the rows
-- so far, that one would end there.
pub record IsFull (log : LogState) (rows : List Row) (row : Row) (e : ℕ) : Type 0 where
  pub there : e ≡ end_of (pending_end log.end rows) (row ∷ [])
  pub past : log.most < end_of log.end (rows ++ row ∷ [])

-- A row is applied, and stands in the pending batch.
pub record IsAdded (end : ℕ) (row : Row) (state state_now : Core) (places places_now : List Place)
    (d d_now : Pending) : Type 0 where
  pub core : (J : List Row) → Holds state J → Holds state_now (J ++ row ∷ [])
  pub window : places_now ≡ places ++ place_of end d.count row
  pub body : d_now.body ≡ d.body ++ row_encoding row
  pub count : d_now.count ≡ d.count + 1

-- A row that stands in the pending batch already is applied.
pub record IsApplied (end : ℕ) (row : Row) (state state_now : Core) (places places_now : List Place)
    (d d_now : Pending) : Type 0 where
  pub core : (J : List Row) → Holds state J → Holds state_now (J ++ row ∷ [])
  pub window : places_now ≡ places ++ place_of end d.count row
  pub body : d_now.body ≡ d.body
  pub count : d_now.count ≡ d.count + 1

-- Nothing is applied, and the pending batch is as it was.
pub record IsUnchanged (state state_now : Core) (places places_now : List Place)
    (d d_now : Pending) : Type 0 where
  pub core : (J : List Row) → Holds state J → Holds state_now J
  pub window : places_now ≡ places
  pub body : d_now.body ≡ d.body
  pub count : d_now.count ≡ d.count

-- the pending batch without the bytes behind so many
abbrev pub cut_to : ℕ → Pending → Pending
cut_to len d = record { body = take len d.body; count = d.count }

-- the length of the body with one row more, which stands in it already
abbrev pub length_with : Pending → ℕ
length_with d = length (front_of Major.List (d.count + 1)) + length (drop AHEAD d.body)

-- there is room for it
pub record FitsWith (log : LogState) (d : Pending) : Type 0 where
  pub short : length_with d < BODY_LENGTHS
  pub fits : log.end + AROUND_BODY + length_with d ≤ log.most

-- where a body goes behind the pending batch, if it has rows
abbrev pub behind_pending : ℕ → Pending → ℕ
behind_pending end d = if d.count == 0 then end else end + BEFORE_BODY + length (pending_body d)

-- there is none, and it begins at this place
pub record IsFullWith (log : LogState) (start : ℕ) (d : Pending) (e : ℕ) : Type 0 where
  pub there : e ≡ behind_pending log.end (cut_to start d) + AROUND_BODY +
      (1 + length (drop start d.body))
  pub past : log.most < log.end + AROUND_BODY + length_with d

-- The disk holds the journal J, and what is known is of J followed by these rows.
pub record IsAhead (J more : List Row) (log : LogState) (state : Core) (places : List Place)
    (v : View) : Type 0 where
  pub bodies : List (List Row)
  pub are : AreBodiesOf J bodies
  pub journal : IsJournal (J ++ more)
  pub holds : HasBodies (bytes_of bodies) log v
  pub core : Holds state (J ++ more)
  pub window : places ≡ places_of log.format bodies ++ places_in log.end 0 more
