-- The search among numbers that rise.
use Rattle.std.proofs.Common.{◌≡◌, ℕ, zero, suc, ◌<◌, ◌≤◌, Bool, cond, List, [], ◌∷◌, ◌++◌, length, get_or, slice_get, take, drop, take-append-drop, length-drop, Some, true, false, refl, sym, ◌∙◌, ap, subst, arith}
use Rattle.std.specs.List.Sorted.{IsPartitionedBy, IsPartitionPoint}
use Rattle.std.proofs.lemmas.Bool.Decides.{nat_tests}
use Rattle.std.proofs.lemmas.Option.{same_Some}
use Rattle.event_window.specs.declared.place.Place.{Place}
use Rattle.event_window.specs.Window.{AreAbove, IsLastUpto, is_at_most, all_above}

first_low : (seq n : ℕ) (places : List Place) (i : ℕ) (d : Place) → AreAbove n places → i < length places → is_at_most seq (get_or places i d) ≡ true → n ≤ seq
first_low seq n [] i d above low t = absurd (omega arith)
first_low seq n (p ∷ places) zero d above low t = let up : n < p.seq = above.0 in grind (arith, nat_tests)
first_low seq n (p ∷ places) (suc i) d above low t =
    let up : n < p.seq = above.0 in
    let more = first_low seq p.seq places i d above.1 (omega arith) t in
    omega arith

low : (seq : ℕ) (p : Place) → p.seq ≤ seq → is_at_most seq p ≡ true
low seq p le = grind (arith, nat_tests)

high : (seq : ℕ) (p : Place) → seq < p.seq → is_at_most seq p ≡ false
high seq p lt = grind (arith, nat_tests)

pub parted : (seq n : ℕ) (places : List Place) → AreAbove n places → IsPartitionedBy (is_at_most seq) places
parted seq n [] above i j d le less t = absurd (omega arith)
parted seq n (p ∷ places) above zero zero d le less t = t
parted seq n (p ∷ places) above zero (suc j) d le less t = low seq p (first_low seq p.seq places j d above.1 (omega arith) t)
parted seq n (p ∷ places) above (suc i) zero d le less t = absurd (omega arith)
parted seq n (p ∷ places) above (suc i) (suc j) d le less t = parted seq p.seq places above.1 i j d (omega arith) (omega arith) t

-- where the search ends, those above begin
pub found_at : (seq : ℕ) (places : List Place) (n : ℕ) → n ≤ length places → IsPartitionPoint (λ p. is_at_most seq p ≡ true) (λ p. is_at_most seq p ≡ false) places n
    → all_above seq places ≡ drop n places
found_at seq [] zero le at = refl
found_at seq [] (suc n) le at = absurd (omega arith)
found_at seq (p ∷ places) zero le at = rw (at.1 0 p (omega arith) (omega arith)) refl
found_at seq (p ∷ places) (suc n) le at =
    rw (at.0 0 p (omega arith) (omega arith))
    (found_at seq places n (omega arith) (λ i d a b. at.0 (suc i) d (omega arith) (omega arith), λ i d a b. at.1 (suc i) d (omega arith) (omega arith)))

-- what stands in front of those above is low
last_low : (seq : ℕ) (places : List Place) (n : ℕ) (p : Place) → slice_get places n ≡ Some p → all_above seq places ≡ drop (suc n) places → p.seq ≤ seq
last_low seq [] n p got is = absurd cc
last_low seq (q ∷ places) zero p got is = at_first (is_at_most seq q) refl is
  where
    at_first : (b : Bool) → is_at_most seq q ≡ b → cond b (all_above seq places) (q ∷ places) ≡ places → p.seq ≤ seq
    at_first true le is = let same : q ≡ p = same_Some q p got in subst (λ (r : Place). r.seq ≤ seq) same (grind (arith, nat_tests, le))
    at_first false le is = absurd (omega (arith, ap length is))
last_low seq (q ∷ places) (suc n) p got is = at_later (is_at_most seq q) is (last_low seq places n p got)
  where
    at_later : (b : Bool) → cond b (all_above seq places) (q ∷ places) ≡ drop (suc n) places → (all_above seq places ≡ drop (suc n) places → p.seq ≤ seq) → p.seq ≤ seq
    at_later true is more = more is
    at_later false is more = absurd (omega (arith, ap length is, length-drop (suc n) places))

here_of : (places : List Place) (n : ℕ) (p : Place) → slice_get places n ≡ Some p → drop n places ≡ p ∷ drop (suc n) places
here_of [] n p got = absurd cc
here_of (q ∷ places) zero p got = ap (λ (r : Place). r ∷ places) (same_Some q p got)
here_of (q ∷ places) (suc n) p got = here_of places n p got

pub got_of : (places : List Place) (n : ℕ) (p : Place) → n < length places → p ≡ get_or places n p → slice_get places n ≡ Some p
got_of [] n p within is = absurd (omega (arith, within))
got_of (q ∷ places) zero p within is = ap Some (sym is)
got_of (q ∷ places) (suc n) p within is = got_of places n p (omega (arith, within)) is

pub last_upto : (seq : ℕ) (places : List Place) (n : ℕ) (p : Place) → slice_get places n ≡ Some p → all_above seq places ≡ drop (suc n) places → IsLastUpto seq p places
last_upto seq places n p got is = record {
  front = take n places;
  split = sym (take-append-drop n places) ∙ ap (λ (l : List Place). take n places ++ l) (here_of places n p got ∙ ap (λ (l : List Place). p ∷ l) (sym is));
  low = last_low seq places n p got is;
}

-- between a low one and one that is above, those above begin
begins_behind : (seq n : ℕ) (places : List Place) (i : ℕ) (d e : Place) → AreAbove n places → suc i < length places → (get_or places i d).seq ≤ seq → seq < (get_or places (suc i) e).seq
    → all_above seq places ≡ drop (suc i) places
begins_behind seq n [] i d e above less le lt = absurd (omega (arith, less))
begins_behind seq n (p ∷ []) i d e above less le lt = absurd (omega (arith, less))
begins_behind seq n (p ∷ q ∷ places) zero d e above less le lt = rw (low seq p le, high seq q lt) refl
begins_behind seq n (p ∷ q ∷ places) (suc i) d e above less le lt =
    let here : p.seq ≤ seq = first_low seq p.seq (q ∷ places) i d above.1 (omega (arith, less)) (low seq (get_or (q ∷ places) i d) le) in
    rw (low seq p here) (begins_behind seq p.seq (q ∷ places) i d e above.1 (omega (arith, less)) le lt)

pub begins : (seq n : ℕ) (places : List Place) (i k : ℕ) (d e : Place) → AreAbove n places → k ≡ suc i → k < length places → (get_or places i d).seq ≤ seq → seq < (get_or places k e).seq
    → all_above seq places ≡ drop k places
begins seq n places i k d e above is less le lt =
    subst (λ m. m < length places → seq < (get_or places m e).seq → all_above seq places ≡ drop m places) (sym is) (λ short high. begins_behind seq n places i d e above short le high) less lt
