-- Going through the rows of a body, byte by byte.
use Rattle.std.proofs.Common.{◌≡◌, ◌≤◌, ◌+◌, ℕ, zero, suc, Bool, true, false, List, [], ◌∷◌, ◌++◌, length, take, drop, Bor, Option, Some, None, refl, sym, ◌∙◌, ap, subst, arith, append_assoc}
use Rattle.std.specs.Prelude.{◌==◌, option_map, slice_get, IfSome}
use Rattle.std.specs.List.{list_all}
use Rattle.std.proofs.Math.Seq.{drop-append_seam}
use Rattle.std.proofs.lemmas.Bool.{and_parts, eqb-true}
use Rattle.std.proofs.lemmas.List.{length-append, length-drop, take-append-drop}
use Rattle.std.proofs.lemmas.Option.{same_Some}
use Rattle.gate_log.specs.Image.{made, front, records}
use Rattle.gate_log.specs.declared.format.Format.{Format}
use Rattle.at_cbor.specs.declared.major.Major.{Major}
use Rattle.at_cbor.specs.Encoding.{front_of}
use Rattle.at_cbor.specs.Taking.{number_at}
use Rattle.at_cbor.proofs.Taken.{number_again}
use Rattle.row_codec.specs.Bodies.{rows_body, row_encoding, encoded_rows, IsBody}
use Rattle.relay_row.specs.Rules.{is_row}
use Rattle.relay_row.specs.declared.row.Row.{Row}

dropped_at : {X : Type 0} (xs : List X) (i : ℕ) (x : X) → slice_get xs i ≡ Some x → drop i xs ≡ x ∷ drop (suc i) xs
dropped_at [] i x got = absurd cc
dropped_at {X = X} (y ∷ xs) zero x got = ap (λ (r : X). r ∷ xs) (same_Some y x got)
dropped_at (y ∷ xs) (suc i) x got = dropped_at xs i x got

-- a row, where one is before it
pub row_next : (rows : List Row) (i : ℕ) (row : Row) → slice_get rows i ≡ Some row → encoded_rows (drop i rows) ≡ row_encoding row ++ encoded_rows (drop (suc i) rows)
row_next rows i row got = ap encoded_rows (dropped_at rows i row got)

pub formed_at : (rows : List Row) (i : ℕ) (row : Row) → list_all is_row rows ≡ true → slice_get rows i ≡ Some row → is_row row ≡ true
formed_at [] i row formed got = absurd cc
formed_at (r ∷ rows) zero row formed got = subst (λ (x : Row). is_row x ≡ true) (same_Some r row got) (and_parts (is_row r) (list_all is_row rows) formed).0
formed_at (r ∷ rows) (suc i) row formed got = formed_at rows i row (and_parts (is_row r) (list_all is_row rows) formed).1 got

pub formed_behind : (i : ℕ) (rows : List Row) → list_all is_row rows ≡ true → list_all is_row (drop i rows) ≡ true
formed_behind zero rows formed = formed
formed_behind (suc i) [] formed = refl
formed_behind (suc i) (r ∷ rows) formed = formed_behind i rows (and_parts (is_row r) (list_all is_row rows) formed).1

one_behind : {X : Type 0} (i : ℕ) (xs : List X) → drop 1 (drop i xs) ≡ drop (suc i) xs
one_behind zero xs = refl
one_behind (suc i) [] = refl
one_behind (suc i) (x ∷ xs) = one_behind i xs

pub one_more : {X : Type 0} (i : ℕ) (xs : List X) → drop 1 (drop i xs) ≡ drop (i + 1) xs
one_more i xs =
    let next : suc i ≡ i + 1 = omega arith in
    one_behind i xs ∙ ap (λ (k : ℕ). drop k xs) next

-- a row has an encoding of some bytes
pub some_encoded : (row : Row) (rows : List Row) → encoded_rows (row ∷ rows) ≡ [] → ⊥
unfolding row_encoding
some_encoded row rows none = absurd cc

pub empty_rows : (rows : List Row) (left : List ℕ) → left ≡ encoded_rows rows → left ≡ [] → rows ≡ []
empty_rows [] left is none = refl
empty_rows (row ∷ rows) left is none = absurd (some_encoded row rows (sym is ∙ none))

pub is_none : (l : List ℕ) (b : Bool) → b ≡ (length l == 0) → b ≡ true → l ≡ []
is_none [] b told is = refl
is_none (x ∷ l) b told is = let both : (length (x ∷ l) == 0) ≡ true = sym told ∙ is in absurd (omega (arith, eqb-true (length (x ∷ l)) 0 both))

pub is_some : (l : List ℕ) (b : Bool) → b ≡ (length l == 0) → b ≡ false → l ≡ [] → ⊥
is_some l b told is none = let both : true ≡ false = sym (ap (λ (x : List ℕ). length x == 0) none) ∙ (sym told ∙ is) in absurd cc

-- none is left behind the last
pub past_all : {X : Type 0} (i : ℕ) (xs : List X) → drop i xs ≡ [] → length xs ≤ i
past_all i xs none = omega (arith, length-drop i xs, ap length none)

-- what is told of the bytes behind the first row
module _ (answer : Option (List ℕ)) (left : List ℕ) (told : (row : Row) (more : List Row) → is_row row ≡ true → left ≡ row_encoding row ++ encoded_rows more → answer ≡ Some (encoded_rows more)) where
  pub none_behind : (rows : List Row) → list_all is_row rows ≡ true → left ≡ encoded_rows rows → answer ≡ None → rows ≡ []
  none_behind [] formed is none = refl
  none_behind (row ∷ rows) formed is none =
      let some = told row rows (and_parts (is_row row) (list_all is_row rows) formed).0 is in
      let both : ◌≡◌ {A = Option (List ℕ)} None (Some (encoded_rows rows)) = sym none ∙ some in
      absurd cc

  pub some_behind : (rows : List Row) (rest : List ℕ) → list_all is_row rows ≡ true → left ≡ encoded_rows rows → (left ≡ [] → ⊥) → answer ≡ Some rest
      → (piece : List ℕ) × (left ≡ piece ++ rest) × (rest ≡ encoded_rows (drop 1 rows))
  some_behind [] rest formed is some got = absurd (some is)
  some_behind (row ∷ rows) rest formed is some got =
      let same : encoded_rows rows ≡ rest = same_Some (encoded_rows rows) rest (sym (told row rows (and_parts (is_row row) (list_all is_row rows) formed).0 is) ∙ got) in
      (row_encoding row, is ∙ ap (λ (l : List ℕ). row_encoding row ++ l) same, sym same)

-- the front of a body tells how many rows it has
pub body_front : (rows : List Row) (body : List ℕ) → IsBody rows body → number_at Major.List body ≡ Some (length rows, encoded_rows rows)
unfolding rows_body
body_front rows body is = ap (number_at Major.List) is.made ∙ number_again Major.List (length rows) (encoded_rows rows) (omega (arith, is.few))

-- behind a row that is at the front of what is left
pub behind_front : (at : ℕ) (body piece rest : List ℕ) → drop at body ≡ piece ++ rest → body ≡ (take at body ++ piece) ++ rest
behind_front at body piece rest left =
    sym (take-append-drop at body) ∙ ap (λ (l : List ℕ). take at body ++ l) left ∙ sym (append_assoc (take at body) piece rest)

pub seam : (front body rest : List ℕ) → body ≡ front ++ rest → drop (length front) body ≡ rest
seam front body rest is = ap (drop (length front)) is ∙ drop-append_seam front rest

-- where bytes begin that others end with
module _ (answer : Option ℕ) (body end : List ℕ) (told : (front : List ℕ) → body ≡ front ++ end → answer ≡ Some (length front)) (front : List ℕ) (is : body ≡ front ++ end) where
  pub starts : (at : ℕ) → answer ≡ Some at → drop at body ≡ end
  starts at some = subst (λ (n : ℕ). drop n body ≡ end) (same_Some (length front) at (sym (told front is) ∙ some)) (seam front body end is)

  pub starts_some : answer ≡ None → ⊥
  starts_some none =
      let both : ◌≡◌ {A = Option ℕ} None (Some (length front)) = sym none ∙ told front is in
      absurd cc

pub if_some : (answer : Option ℕ) (P : ℕ → Type 0) → ((at : ℕ) → answer ≡ Some at → P at) → IfSome answer P
if_some None P told = tt
if_some (Some at) P told = told at refl

-- the rows behind the front of a body
pub rows_behind : (rows : List Row) (body : List ℕ) (count : ℕ) (rest : List ℕ) → IsBody rows body → Some (count, rest) ≡ number_at Major.List body → (rest ≡ encoded_rows rows) × (body ≡ front_of Major.List (length rows) ++ rest)
unfolding rows_body
rows_behind rows body count rest is found =
    let same : rest ≡ encoded_rows rows = ap (λ (x : ℕ × List ℕ). x.1) (same_Some (count, rest) (length rows, encoded_rows rows) (found ∙ body_front rows body is)) in
    (same, is.made ∙ ap (λ (l : List ℕ). front_of Major.List (length rows) ++ l) (sym same))

pub no_borrow : (answer : Option (Bor (List ℕ))) → answer ≡ None → option_map (λ r. r.now) answer ≡ None
no_borrow answer none = ap (option_map (λ (r : Bor (List ℕ)). r.now)) none

-- what is left on a buffer at the row that is sought
pub left_at : (rows : List Row) (left : List ℕ) (i j : ℕ) (row : Row) → left ≡ encoded_rows (drop i rows) → i ≡ j → slice_get rows j ≡ Some row → left ≡ row_encoding row ++ encoded_rows (drop (suc j) rows)
left_at rows left i j row is same got = is ∙ ap (λ (k : ℕ). encoded_rows (drop k rows)) same ∙ row_next rows j row got

-- a log has its front at least
pub some_place : (format : Format) (bodies : List (List ℕ)) → 0 ≡ length (made format bodies) → ⊥
some_place Format.One bodies none = omega (arith, none, length-append (front Format.One) (records bodies))
some_place (Format.Two generation) bodies none = omega (arith, none, length-append (front (Format.Two generation)) (records bodies))
