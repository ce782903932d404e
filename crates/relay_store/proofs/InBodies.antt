-- One of many bodies.
use Rattle.std.proofs.Common.{ℕ, ◌-◌, ◌<◌, List, [], ◌∷◌, ◌++◌, length, arith}
use Rattle.gate_log.specs.Image.{made}
use Rattle.gate_log.specs.declared.format.Format.{Format}
use Rattle.row_codec.specs.Bodies.{IsBody, rows_body}
use Rattle.relay_row.specs.declared.row.Row.{Row}
use Rattle.relay_store.specs.Journals.{AllBodies}
use Rattle.relay_store.proofs.Loaded.{length_made, some_records}

pub each_at : (before : List (List Row)) (rows : List Row) (after : List (List Row)) → AllBodies (before ++ rows ∷ after) → IsBody rows (rows_body rows)
each_at [] rows after each = each.0
each_at (b ∷ before) rows after each = each_at before rows after each.1

-- a body stands before the end
pub body_inside : (format : Format) (before : List (List ℕ)) (body : List ℕ) (after : List (List ℕ)) → length (made format before) < length (made format (before ++ body ∷ after))
body_inside format before body after = omega (arith, length_made format before (body ∷ after), some_records body after)
