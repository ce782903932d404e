-- Links that begin differently.
use Rattle.std.proofs.Common.{◌≡◌, ℕ, ◌+◌, Bool, true, false, not, ◌&&◌, List, [], ◌∷◌, get_or, map, refl, sym, ap, ◌∙◌, nat_cmp}
use Rattle.std.specs.List.{AllByRecursion, IsAllAdjacentAnswer, IsDistinct}
use Rattle.std.specs.List.Sorted.{IsPermutation, IsStrictlyIncreasing}
use Rattle.std.specs.Ordering.{eq_by_cmp}
use Rattle.std.specs.Cmp.{IsEquivalence}
use Rattle.std.specs.Str.{bytes_eq}
use Rattle.std.proofs.Math.Dec.{ltb}
use Rattle.std.specs.Prelude.{nat_eq}
use Rattle.std.proofs.lemmas.Bool.{eq-eqb, ltb-true}
use Rattle.std.proofs.lemmas.Cmp.{eq_by_cmp_equiv, nat_cmp_total}
use Rattle.std.proofs.lemmas.List.Sorted.{IsPermutation-sym}
use Rattle.std.proofs.lemmas.Map.Keys.{IsDistinct-from_sorted, IsDistinct-head, IsDistinct-tail, IsDistinct-IsPermutation, sorted_from_strictly_increasing}
use Rattle.std.proofs.lemmas.Slice.Eq.{bytes_eq-Decides}
use Rattle.at_cid.specs.Distinct.{is_absent, all_differ}
use Rattle.at_car.specs.Links.{first_word}

-- numbers as their order tells them apart
abbrev same : ℕ → ℕ → Bool
same a b = eq_by_cmp nat_cmp a b

same_laws : IsEquivalence same
same_laws = eq_by_cmp_equiv nat_cmp_total

join : (a b : Bool) → a ≡ true → b ≡ true → a && b ≡ true
join a b e f = rw (e, f) refl

apart : (x y : List ℕ) → same (first_word x) (first_word y) ≡ false → not (bytes_eq y x) ≡ true
apart x y e =
    elim (bytes_eq y x) as (λ t. bytes_eq y x ≡ t → not t ≡ true) [
      | true ↦ λ s.
          let one : y ≡ x = (bytes_eq-Decides y x).0 s in
          let twice : same (first_word x) (first_word y) ≡ true = ap (λ z. same (first_word x) (first_word z)) one ∙ same_laws.refl (first_word x) in
          absurd cc
      | false ↦ λ s. refl
    ] refl

-- a link that begins as none of these is none of them
new_word : (x : List ℕ) (xs : List (List ℕ)) → AllByRecursion (λ w. same (first_word x) w ≡ false) (map first_word xs) → is_absent bytes_eq x xs ≡ true
new_word x [] h = refl
new_word x (y ∷ ys) h = join (not (bytes_eq y x)) (is_absent bytes_eq x ys) (apart x y h.0) (new_word x ys h.1)

-- links that begin differently differ
words_differ : (xs : List (List ℕ)) → IsDistinct same (map first_word xs) → all_differ bytes_eq xs ≡ true
words_differ [] h = refl
words_differ (x ∷ xs) h =
    let words = map first_word xs in
    join (is_absent bytes_eq x xs) (all_differ bytes_eq xs) (new_word x xs (IsDistinct-head same (first_word x) words h)) (words_differ xs (IsDistinct-tail same (first_word x) words h))

-- numbers of which each is found below the next rise
pub found_rising : (words : List ℕ) (rise : Bool) → IsAllAdjacentAnswer (λ x y b. b ≡ ltb x y) words rise → rise ≡ true → IsStrictlyIncreasing words
found_rising words true found e = λ k more. ltb-true (get_or words k 0) (get_or words (k + 1) 0) (sym (found k 0 more))
found_rising words false found e = absurd cc

-- links whose first words rise in some order differ
pub rising_differ : (xs : List (List ℕ)) (words : List ℕ) → IsPermutation (map first_word xs) words → IsStrictlyIncreasing words → all_differ bytes_eq xs ≡ true
rising_differ xs words moved up =
    let distinct : IsDistinct same words = IsDistinct-from_sorted nat_cmp words (sorted_from_strictly_increasing words up) in
    words_differ xs (IsDistinct-IsPermutation same same_laws.symm words (map first_word xs) (IsPermutation-sym (map first_word xs) words moved) distinct)

both : (a b : Bool) → (a && b) ≡ true → (a ≡ true) × (b ≡ true)
both true b e = (refl, e)
both false b e = absurd cc

other_link : (x y : List ℕ) → not (nat_eq (first_word y) (first_word x)) ≡ true → not (bytes_eq y x) ≡ true
other_link x y e =
    elim (bytes_eq y x) as (λ t. bytes_eq y x ≡ t → not t ≡ true) [
      | true ↦ λ s.
          let one : y ≡ x = (bytes_eq-Decides y x).0 s in
          let twice : nat_eq (first_word y) (first_word x) ≡ true = eq-eqb (first_word y) (first_word x) (ap first_word one) in
          absurd cc
      | false ↦ λ s. refl
    ] refl

other_links : (x : List ℕ) (xs : List (List ℕ)) → is_absent nat_eq (first_word x) (map first_word xs) ≡ true → is_absent bytes_eq x xs ≡ true
other_links x [] e = refl
other_links x (y ∷ ys) e =
    let b = both (not (nat_eq (first_word y) (first_word x))) (is_absent nat_eq (first_word x) (map first_word ys)) e in
    join (not (bytes_eq y x)) (is_absent bytes_eq x ys) (other_link x y b.0) (other_links x ys b.1)

-- links differ where the numbers that they begin with do
pub numbers_differ : (xs : List (List ℕ)) → all_differ nat_eq (map first_word xs) ≡ true → all_differ bytes_eq xs ≡ true
numbers_differ [] e = refl
numbers_differ (x ∷ xs) e =
    let b = both (is_absent nat_eq (first_word x) (map first_word xs)) (all_differ nat_eq (map first_word xs)) e in
    join (is_absent bytes_eq x xs) (all_differ bytes_eq xs) (other_links x xs b.0) (numbers_differ xs b.1)
