-- Text that is split at the first of a character.
use Rattle.std.proofs.Common.{◌≡◌, ℕ, ◌+◌, ◌<◌, Bool, true, false, eqb, List, [], ◌∷◌, ◌++◌, length, get_or, refl, sym, ap, ◌∙◌, arith}
use Rattle.std.specs.List.{list_all, position_or_len, before_first, after_first}
use Rattle.std.proofs.lemmas.Bool.{false≢true, and_parts, eqb-true, ne_eqb, eq-eqb}
use Rattle.std.proofs.lemmas.List.{drop_all, length-drop}
use Rattle.std.proofs.lemmas.List.Sums.{split_at_first, passes_at_first}
use Rattle.std.proofs.Math.Seq.{take-append_seam, drop-append-add}

-- nothing stands behind a character that isn't there
pub after_none : (sep : ℕ) (text : List ℕ) → position_or_len (λ c. eqb c sep) text ≡ length text → after_first (λ c. eqb c sep) text ≡ []
after_none sep text h = drop_all (position_or_len (λ c. eqb c sep) text + 1) text (omega arith)

other : (sep c : ℕ) (class : ℕ → Bool) → class sep ≡ false → class c ≡ true → eqb c sep ≡ false
other sep c class out of = ne_eqb c sep (λ e. false≢true (sym out ∙ ap class (sym e) ∙ of))

-- a part without the separator stands before the first one
pub part_long : (sep : ℕ) (class : ℕ → Bool) → class sep ≡ false → (part rest : List ℕ) → list_all class part ≡ true → position_or_len (λ c. eqb c sep) (part ++ sep ∷ rest) ≡ length part
part_long sep class out [] rest h = rw (eq-eqb sep sep refl) refl
part_long sep class out (c ∷ part) rest h =
    let parts = and_parts (class c) (list_all class part) h in
    rw (other sep c class out parts.0, part_long sep class out part rest parts.1) (omega arith)

pub part_before : (sep : ℕ) (class : ℕ → Bool) → class sep ≡ false → (part rest : List ℕ) → list_all class part ≡ true → before_first (λ c. eqb c sep) (part ++ sep ∷ rest) ≡ part
part_before sep class out part rest h = rw (part_long sep class out part rest h) (take-append_seam part (sep ∷ rest))

pub part_after : (sep : ℕ) (class : ℕ → Bool) → class sep ≡ false → (part rest : List ℕ) → list_all class part ≡ true → after_first (λ c. eqb c sep) (part ++ sep ∷ rest) ≡ rest
part_after sep class out part rest h = rw (part_long sep class out part rest h) (drop-append-add part (sep ∷ rest) 1)

-- text with something behind the first of a character is the two parts around it
pub parts_again : (sep : ℕ) (text : List ℕ) → 0 < length (after_first (λ c. eqb c sep) text) → text ≡ before_first (λ c. eqb c sep) text ++ sep ∷ after_first (λ c. eqb c sep) text
parts_again sep text h =
    let first = position_or_len (λ c. eqb c sep) text in
    let there : first < length text = omega (arith, length-drop (first + 1) text) in
    split_at_first (λ c. eqb c sep) text 0 there ∙ ap (λ (c : ℕ). before_first (λ c. eqb c sep) text ++ c ∷ after_first (λ c. eqb c sep) text) (eqb-true (get_or text first 0) sep (passes_at_first (λ c. eqb c sep) text 0 there))
