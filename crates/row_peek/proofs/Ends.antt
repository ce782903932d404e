-- Behind a row of a body stands nothing, or another list.
use Rattle.std.proofs.Common.{◌≡◌, ◌∙◌, ℕ, ◌+◌, ◌*◌, ◌<◌, Bool, true, leb, ltb, List, [], ◌∷◌, ◌++◌, length, Option, None, Some, refl, ap, arith}
use Rattle.std.specs.Prelude.{◌&&◌, if◌then◌else◌}
use Rattle.std.proofs.lemmas.Bool.Decides.{nat_tests}
use Rattle.at_cbor.specs.declared.major.Major.{Major}
use Rattle.at_cbor.specs.Encoding.{front_of}
use Rattle.at_cbor.proofs.Fronts.{form_0}
use Rattle.relay_row.specs.declared.row.Row.{Row}
use Rattle.row_codec.specs.Items.{row_items}
use Rattle.row_codec.specs.Bodies.{encoded_rows, row_encoding}
use Rattle.relay_row.specs.Rules.{is_row}
use Rattle.row_codec.proofs.Again.{then_encode, list_then}
use Rattle.row_codec.proofs.AgainRows.{few_items}
use Rattle.at_cbor.specs.Taking.{◌>>=◌}
use Rattle.row_peek.specs.Passing.{ended_row, ends_before}
use Rattle.row_peek.proofs.Rows.{row_passed}

row_begins : (row : Row) (rest : List ℕ) → row_encoding row ++ rest ≡ (32 * 4 + length (row_items row)) ∷ then_encode (row_items row) rest
unfolding row_encoding
row_begins row rest =
    let form = form_0 (length (row_items row)) (few_items row) in
    let made : front_of Major.List (length (row_items row)) ≡ (32 * 4 + length (row_items row)) ∷ [] = rw (form.0, form.1) refl in
    list_then (row_items row) rest ∙ ap (λ (front : List ℕ). front ++ then_encode (row_items row) rest) made

of_list : (n : ℕ) → n < 24 → (leb 128 (32 * 4 + n) && ltb (32 * 4 + n) 160) ≡ true
of_list n few =
    let low : leb 128 (32 * 4 + n) ≡ true = grind (arith, nat_tests) in
    let high : ltb (32 * 4 + n) 160 ≡ true = grind (arith, nat_tests) in
    rw (low, high) refl

rows_behind : (more : List Row) → ends_before (encoded_rows more) ≡ true
rows_behind [] = refl
rows_behind (row ∷ rows) = ap ends_before (row_begins row (encoded_rows rows)) ∙ of_list (length (row_items row)) (few_items row)

pub row_ends : (row : Row) (more : List Row) → is_row row ≡ true → ended_row (row_encoding row ++ encoded_rows more) ≡ Some (encoded_rows more)
unfolding ended_row
row_ends row more is =
    ap (λ (behind : Option (List ℕ)). behind >>= λ (rest : List ℕ). if ends_before rest then Some rest else None) (row_passed row (encoded_rows more) is)
    ∙ ap (λ (b : Bool). if b then Some (encoded_rows more) else None) (rows_behind more)
