-- What is left of a body while its rows are read one after the other.
use Rattle.std.specs.Prelude.{◌≡◌, ⊤, ℕ, ◌+◌, ◌≤◌, List, [], ◌∷◌, ◌++◌, length, true, Option, Some, None, Result, Ok, Err}
use Rattle.std.specs.List.{list_all}
use Rattle.at_cbor.specs.declared.major.Major.{Major}
use Rattle.at_cbor.specs.Encoding.{front_of}
use Rattle.row_codec.specs.declared.fault.RowFault.{RowFault}
use Rattle.relay_row.specs.declared.limits.TheConstants.{MOST_ROWS}
use Rattle.relay_row.specs.declared.row.Row.{Row}
use Rattle.row_codec.specs.Bodies.{encoded_rows, IsBody}
use Rattle.relay_row.specs.Rules.{is_row}

-- So many rows are to come, and these bytes.
pub record RowsLeft : Type 0 where
  pub count : ℕ
  pub bytes : List ℕ

-- They are what stands behind the body's front, which tells a count from 1 to 64.
pub record AreBehindFront (body : List ℕ) (left : RowsLeft) : Type 0 where
  pub some : 1 ≤ left.count
  pub few : left.count ≤ MOST_ROWS
  pub made : body ≡ front_of Major.List left.count ++ left.bytes

-- These well formed rows stand in front of all that there was, and that is left behind them.
pub record AreInFront (rows : List Row) (was left : RowsLeft) : Type 0 where
  pub formed : list_all is_row rows ≡ true
  pub count : was.count ≡ length rows + left.count
  pub bytes : was.bytes ≡ encoded_rows rows ++ left.bytes

-- These well formed rows are all that is left.
pub record AreLeft (rows : List Row) (left : RowsLeft) : Type 0 where
  pub formed : list_all is_row rows ≡ true
  pub count : left.count ≡ length rows
  pub bytes : left.bytes ≡ encoded_rows rows

-- What stands behind the body's front; BadRow only where it is the body of no rows; else memory ran
-- out.
abbrev pub BeginsBody : Result RowsLeft RowFault → List ℕ → Type 0
BeginsBody (Ok left) body = AreBehindFront body left
BeginsBody (Err RowFault.BadRow) body = (rows : List Row) → IsBody rows body → ⊥
BeginsBody (Err RowFault.Memory) body = ⊤

-- The row in front; none where no rows are left; BadRow only where what was left is that of no
-- rows; else memory ran out. Without a row all is left that was.
abbrev pub TakesNext : Result (Option Row) RowFault → RowsLeft → RowsLeft → Type 0
TakesNext (Ok (Some row)) was now = AreInFront (row ∷ []) was now
TakesNext (Ok None) was now = AreLeft [] was × (now ≡ was)
TakesNext (Err RowFault.BadRow) was now = ((rows : List Row) → AreLeft rows was → ⊥) × (now ≡ was)
TakesNext (Err RowFault.Memory) was now = now ≡ was
