-- What holds of all bodies and encodings.
use Rattle.std.specs.Prelude.{◌≡◌, ℕ, List, ◌++◌}
use Rattle.relay_row.specs.declared.row.Row.{Row}
use Rattle.row_codec.specs.Bodies.{encoded_rows, IsBody}

-- No body is that of two lists of rows.
abbrev pub BodiesTellRows : Type 0
BodiesTellRows = (xs ys : List Row) (body : List ℕ) → IsBody xs body → IsBody ys body → xs ≡ ys

-- Rows after rows are encoded after them.
abbrev pub RowsJoin : Type 0
RowsJoin = (xs ys : List Row) → encoded_rows (xs ++ ys) ≡ encoded_rows xs ++ encoded_rows ys
