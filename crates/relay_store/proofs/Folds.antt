-- Bodies, and places, over one more.
use Rattle.std.proofs.Common.{◌≡◌, ℕ, ◌+◌, List, [], ◌∷◌, ◌++◌, length, refl, sym, ◌∙◌, ap, append_assoc, arith}
use Rattle.std.proofs.lemmas.List.{append-nil}
use Rattle.event_window.specs.declared.place.Place.{Place}
use Rattle.gate_log.specs.declared.format.Format.{Format}
use Rattle.gate_log.specs.Image.{made}
use Rattle.row_codec.specs.Bodies.{rows_body, IsBody}
use Rattle.relay_row.specs.declared.row.Row.{Row}
use Rattle.relay_store.specs.Journals.{joined, bytes_of, AllBodies}
use Rattle.relay_store.specs.Places.{place_of, places_in, places_behind}

pub joined_push : (bodies : List (List Row)) (rows : List Row) → joined (bodies ++ rows ∷ []) ≡ joined bodies ++ rows
joined_push [] rows = append-nil rows
joined_push (b ∷ bodies) rows = ap (λ (l : List Row). b ++ l) (joined_push bodies rows) ∙ sym (append_assoc b (joined bodies) rows)

pub bytes_push : (bodies : List (List Row)) (rows : List Row) → bytes_of (bodies ++ rows ∷ []) ≡ bytes_of bodies ++ rows_body rows ∷ []
bytes_push [] rows = refl
bytes_push (b ∷ bodies) rows = ap (λ (l : List (List ℕ)). rows_body b ∷ l) (bytes_push bodies rows)

pub each_push : (bodies : List (List Row)) (rows : List Row) → AllBodies bodies → IsBody rows (rows_body rows) → AllBodies (bodies ++ rows ∷ [])
each_push [] rows each one = (one, tt)
each_push (b ∷ bodies) rows each one = (each.0, each_push bodies rows each.1 one)

pub places_append : (place index later : ℕ) (xs ys : List Row) → later ≡ index + length xs → places_in place index (xs ++ ys) ≡ places_in place index xs ++ places_in place later ys
places_append place index later [] ys is = ap (λ (n : ℕ). places_in place n ys) (omega (arith, is))
places_append place index later (x ∷ xs) ys is =
    ap (λ (l : List Place). place_of place index x ++ l) (places_append place (index + 1) later xs ys (omega (arith, is)))
    ∙ sym (append_assoc (place_of place index x) (places_in place (index + 1) xs) (places_in place later ys))

pub places_one : (place index : ℕ) (row : Row) → places_in place index (row ∷ []) ≡ place_of place index row
places_one place index row = append-nil (place_of place index row)

pub places_push : (format : Format) (before bodies : List (List Row)) (rows : List Row)
    → places_behind format before (bodies ++ rows ∷ []) ≡ places_behind format before bodies ++ places_in (length (made format (bytes_of (before ++ bodies)))) 0 rows
places_push format before [] rows =
    append-nil (places_in (length (made format (bytes_of before))) 0 rows) ∙ ap (λ (bs : List (List Row)). places_in (length (made format (bytes_of bs))) 0 rows) (sym (append-nil before))
places_push format before (b ∷ bodies) rows =
    let first = places_in (length (made format (bytes_of before))) 0 b in
    ap (λ (l : List Place). first ++ l) (places_push format (before ++ b ∷ []) bodies rows)
    ∙ sym (append_assoc first (places_behind format (before ++ b ∷ []) bodies) (places_in (length (made format (bytes_of ((before ++ b ∷ []) ++ bodies)))) 0 rows))
    ∙ ap (λ (bs : List (List Row)). (first ++ places_behind format (before ++ b ∷ []) bodies) ++ places_in (length (made format (bytes_of bs))) 0 rows) (append_assoc before (b ∷ []) bodies)
