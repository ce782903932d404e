-- What the reader of bodies answers.
use Rattle.std.specs.Prelude.{⊤, List, ℕ, Result, Ok, Err}
use Rattle.row_codec.specs.declared.fault.RowFault.{RowFault}
use Rattle.relay_row.specs.declared.row.Row.{Row}
use Rattle.row_codec.specs.Bodies.{IsBody}

-- The rows whose body it is; BadRow exactly where it is the body of no rows; else memory ran out.
abbrev pub ReadsBody : Result (List Row) RowFault → List ℕ → Type 0
ReadsBody (Ok rows) body = IsBody rows body
ReadsBody (Err RowFault.BadRow) body = (rows : List Row) → IsBody rows body → ⊥
ReadsBody (Err RowFault.Memory) body = ⊤
