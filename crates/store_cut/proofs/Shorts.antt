-- Rows of which a body alone is short enough for a log.
use Rattle.std.proofs.Common.{ℕ, ◌+◌, ◌<◌, List, [], ◌∷◌, ◌++◌, length, take, drop, sym, subst, arith, length-append}
use Rattle.std.proofs.lemmas.List.{take-append-drop}
use Rattle.gate_log.specs.declared.limits.TheConstants.{BODY_LENGTHS}
use Rattle.row_codec.specs.Bodies.{rows_body, row_encoding, encoded_rows}
use Rattle.relay_row.specs.declared.row.Row.{Row}
use Rattle.store_cut.specs.Rewriting.{AllShort}
use Rattle.relay_store.proofs.Encodings.{length_body, length_one}

-- a row alone has the front of a list of one, and no more bytes than it has among others
encoded_short : (rows : List Row) → length (encoded_rows rows) + 1 < BODY_LENGTHS → AllShort rows
encoded_short [] short = tt
encoded_short (row ∷ rows) short =
    let both = length-append (row_encoding row) (encoded_rows rows) in
    (omega (arith, short, both, length_one row), encoded_short rows (omega (arith, short, both)))

-- so does each row of a body that is short enough
pub body_short : (rows : List Row) → length (rows_body rows) < BODY_LENGTHS → AllShort rows
body_short rows short = encoded_short rows (omega (arith, short, length_body rows))

pub short_front : (xs ys : List Row) → AllShort (xs ++ ys) → AllShort xs
short_front [] ys all = tt
short_front (x ∷ xs) ys all = (all.0, short_front xs ys all.1)

pub short_behind : (xs ys : List Row) → AllShort (xs ++ ys) → AllShort ys
short_behind [] ys all = all
short_behind (x ∷ xs) ys all = short_behind xs ys all.1

pub short_dropped : (n : ℕ) (rows : List Row) → AllShort rows → AllShort (drop n rows)
short_dropped n rows all = short_behind (take n rows) (drop n rows) (subst AllShort (sym (take-append-drop n rows)) all)
