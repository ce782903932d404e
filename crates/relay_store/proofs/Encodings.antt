-- The bytes of bodies, and of the body under way.
use Rattle.std.proofs.Common.{◌≡◌, ℕ, ◌+◌, ◌≤◌, List, [], ◌∷◌, ◌++◌, length, drop, refl, sym, ◌∙◌, ap, arith, length-append, true}
use Rattle.std.proofs.lemmas.Bool.{and_parts}
use Rattle.std.proofs.lemmas.List.Folds.{list_all-append}
use Rattle.std.specs.List.{list_all}
use Rattle.at_cbor.specs.declared.major.Major.{Major}
use Rattle.at_cbor.specs.Encoding.{front_of}
use Rattle.row_codec.specs.Bodies.{rows_body, row_encoding, encoded_rows, IsBody}
use Rattle.relay_row.specs.Journal.{IsJournal}
use Rattle.relay_row.specs.Rules.{is_row}
use Rattle.relay_row.specs.declared.row.Row.{Row}
use Rattle.relay_store.specs.PendingBodies.{HasRows, pending_body}
use Rattle.relay_store.specs.declared.pending.Pending.{Pending}
use Rattle.relay_store.proofs.Fronts.{no_tail}

pub body_is : (rows : List Row) → rows_body rows ≡ front_of Major.List (length rows) ++ encoded_rows rows
unfolding rows_body
body_is rows = refl

pub length_body : (rows : List Row) → length (rows_body rows) ≡ length (front_of Major.List (length rows)) + length (encoded_rows rows)
length_body rows = ap length (body_is rows) ∙ length-append (front_of Major.List (length rows)) (encoded_rows rows)

-- the front of a list of one has one byte
pub one_front : length (front_of Major.List 1) ≡ 1
one_front = rw (no_tail 1 (omega arith)) refl

pub length_one : (row : Row) → length (rows_body (row ∷ [])) ≡ 1 + length (row_encoding row)
length_one row = omega (arith, length_body (row ∷ []), one_front, length-append (row_encoding row) [])

-- the bytes of a pending batch are the body of its rows
pub pending_is : (rows : List Row) (d : Pending) → HasRows rows d → pending_body d ≡ rows_body rows
pending_is rows d has =
    ap (λ (n : ℕ). front_of Major.List n ++ drop 6 d.body) has.count ∙ ap (λ (l : List ℕ). front_of Major.List (length rows) ++ l) has.encoded_are ∙ sym (body_is rows)

-- rows behind a journal are well formed
pub formed_behind : (J rows : List Row) → IsJournal (J ++ rows) → list_all is_row rows ≡ true
formed_behind J rows is = (and_parts (list_all is_row J) (list_all is_row rows) (sym (list_all-append is_row J rows) ∙ is.formed)).1

pub a_body : (J rows : List Row) → IsJournal (J ++ rows) → 1 ≤ length rows → length rows ≤ 64 → IsBody rows (rows_body rows)
a_body J rows is some few = record { some = some; few = few; formed = formed_behind J rows is; made = refl }
