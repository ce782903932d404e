-- Rows, and lists of them, as bytes.
use Rattle.std.specs.Prelude.{◌≡◌, ℕ, ◌≤◌, List, [], ◌∷◌, ◌++◌, length, true}
use Rattle.std.specs.List.{list_all}
use Rattle.at_cbor.specs.declared.major.Major.{Major}
use Rattle.at_cbor.specs.Encoding.{front_of, encoding}
use Rattle.relay_row.specs.declared.limits.TheConstants.{MOST_ROWS}
use Rattle.relay_row.specs.declared.row.Row.{Row}
use Rattle.row_codec.specs.Items.{list, row_items}
use Rattle.relay_row.specs.Rules.{is_row}

-- a row's one encoding: the DAG-CBOR list of its items
unfoldable pub row_encoding : Row → List ℕ
row_encoding row = encoding (list (row_items row))

-- rows, one behind the other
abbrev pub encoded_rows : List Row → List ℕ
encoded_rows [] = []
encoded_rows (row ∷ rows) = row_encoding row ++ encoded_rows rows

-- a body: the DAG-CBOR list of the rows
unfoldable pub rows_body : List Row → List ℕ
rows_body rows = front_of Major.List (length rows) ++ encoded_rows rows

-- The body is the one of these rows, of which there are 1 to 64, each well formed.
pub record IsBody (rows : List Row) (body : List ℕ) : Type 0 where
  pub some : 1 ≤ length rows
  pub few : length rows ≤ MOST_ROWS
  pub formed : list_all is_row rows ≡ true
  pub made : body ≡ rows_body rows
