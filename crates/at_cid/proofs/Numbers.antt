-- Bytes compare as the numbers that eight of them encode.
use Rattle.std.proofs.Common.{◌≡◌, ℕ, zero, suc, ◌+◌, ◌*◌, ◌<◌, ◌≤◌, List, [], ◌∷◌, length, take, drop, refl, sym, ◌∙◌, subst, arith, w64, Less, Equal, Greater}
use Rattle.std.specs.Prelude.{◌≢◌}
use Rattle.std.specs.declared.cmp.Ordering.{Ordering}
use Rattle.std.proofs.lemmas.List.{drop-drop, get_or-drop, length-drop}
use Rattle.std.specs.Int.{from_be_bytes}
use Rattle.std.specs.Ordering.{nat_cmp, ordering_then, MatchOrdering}
use Rattle.std.specs.Cmp.{ranks, nat_cmp_is}
use Rattle.std.specs.Slice.Scan.{big_endian}
use Rattle.std.proofs.lemmas.Cmp.{nat_cmp_total, tied_itself}
use Rattle.at_cid.specs.Link.{IsBytes}
use Rattle.at_cid.specs.Order.{key_cmp}

-- the lesser front encodes the lesser number
rises : (n a b : ℕ) (x y : List ℕ) → n ≤ length x → n ≤ length y → IsBytes x → a < b → big_endian a (take n x) < big_endian b (take n y)
rises zero a b x y p q h l = l
rises (suc n) a b [] y p q h l = absurd (omega arith)
rises (suc n) a b (u ∷ x) [] p q h l = absurd (omega arith)
rises (suc n) a b (u ∷ x) (v ∷ y) p q h l =
    let small : u < 256 = h 0 in
    rises n (a * 256 + u) (b * 256 + v) x y (omega arith) (omega arith) (λ k. h (suc k)) (omega arith)

-- n bytes decide as the numbers that they encode after a, and else what follows them does
as_numbers : (n a : ℕ) (x y : List ℕ) → n ≤ length x → n ≤ length y → IsBytes x → IsBytes y
    → ordering_then (nat_cmp (big_endian a (take n x)) (big_endian a (take n y))) (key_cmp (drop n x) (drop n y)) ≡ key_cmp x y
unfolding key_cmp
as_numbers zero a x y p q g h = rw (tied_itself nat_cmp_total a) refl
as_numbers (suc n) a [] y p q g h = absurd (omega arith)
as_numbers (suc n) a (u ∷ x) [] p q g h = absurd (omega arith)
as_numbers (suc n) a (u ∷ x) (v ∷ y) p q g h = by (as_numbers n (a * 256 + u) x y (omega arith) (omega arith) (λ k. g (suc k)) (λ k. h (suc k))) (nat_cmp u v) refl (ranks u v)
  where
    by : ordering_then (nat_cmp (big_endian (a * 256 + u) (take n x)) (big_endian (a * 256 + u) (take n y))) (key_cmp (drop n x) (drop n y)) ≡ key_cmp x y
        → (r : Ordering) → nat_cmp u v ≡ r → MatchOrdering r (u < v) (u ≡ v) (v < u)
        → ordering_then (nat_cmp (big_endian (a * 256 + u) (take n x)) (big_endian (a * 256 + v) (take n y))) (key_cmp (drop n x) (drop n y)) ≡ ordering_then (nat_cmp u v) (key_cmp x y)
    by rest Less e l =
        let under : u < v = l in
        rw (e, sym (nat_cmp_is _ _ Less (rises n (a * 256 + u) (a * 256 + v) x y (omega arith) (omega arith) (λ k. g (suc k)) (omega arith)))) refl
    by rest Greater e l =
        let over : v < u = l in
        rw (e, sym (nat_cmp_is _ _ Greater (rises n (a * 256 + v) (a * 256 + u) y x (omega arith) (omega arith) (λ k. h (suc k)) (omega arith)))) refl
    by rest Equal e l =
        let level : u ≡ v = l in
        rw (e, ← level) rest

decides : (a b : ℕ) (o : Ordering) → MatchOrdering (nat_cmp a b) (a < b) (a ≡ b) (b < a) → (a ≢ b) → ordering_then (nat_cmp a b) o ≡ nat_cmp a b
decides a b o = by (nat_cmp a b)
  where
    by : (r : Ordering) → MatchOrdering r (a < b) (a ≡ b) (b < a) → (a ≢ b) → ordering_then r o ≡ r
    by Less m f = refl
    by Equal m f = absurd (f m)
    by Greater m f = refl

spelt : (x : List ℕ) → 8 ≤ length x → from_be_bytes w64 (take 8 x) ≡ big_endian 0 (take 8 x)
spelt [] p = absurd (omega arith)
spelt (a ∷ []) p = absurd (omega arith)
spelt (a ∷ b ∷ []) p = absurd (omega arith)
spelt (a ∷ b ∷ c ∷ []) p = absurd (omega arith)
spelt (a ∷ b ∷ c ∷ d ∷ []) p = absurd (omega arith)
spelt (a ∷ b ∷ c ∷ d ∷ e ∷ []) p = absurd (omega arith)
spelt (a ∷ b ∷ c ∷ d ∷ e ∷ f ∷ []) p = absurd (omega arith)
spelt (a ∷ b ∷ c ∷ d ∷ e ∷ f ∷ g ∷ []) p = absurd (omega arith)
spelt (a ∷ b ∷ c ∷ d ∷ e ∷ f ∷ g ∷ h ∷ x) p = omega arith

-- eight bytes from n on, and the numbers that they encode
module _ (n : ℕ) (x y : List ℕ) (p : n + 8 ≤ length x) (q : n + 8 ≤ length y) (g : IsBytes x) (h : IsBytes y) (a b : ℕ)
    (left : a ≡ from_be_bytes w64 (take 8 (drop n x))) (right : b ≡ from_be_bytes w64 (take 8 (drop n y))) where
  by_eight : ordering_then (nat_cmp a b) (key_cmp (drop (n + 8) x) (drop (n + 8) y)) ≡ key_cmp (drop n x) (drop n y)
  by_eight =
      let i : 8 ≤ length (drop n x) = omega (arith, length-drop n x) in
      let j : 8 ≤ length (drop n y) = omega (arith, length-drop n y) in
      let bytes = λ (l : List ℕ) (f : IsBytes l) (k : ℕ). subst (λ (m : ℕ). m < 256) (sym (get_or-drop n l k 0)) (f (n + k)) in
      rw (left, right, spelt (drop n x) i, spelt (drop n y) j, ← drop-drop 8 n x, ← drop-drop 8 n y) (as_numbers 8 0 (drop n x) (drop n y) i j (bytes x g) (bytes y h))

  pub alike : a ≡ b → key_cmp (drop (n + 8) x) (drop (n + 8) y) ≡ key_cmp (drop n x) (drop n y)
  alike e = rw (e, tied_itself nat_cmp_total b) at by_eight

  pub apart : (a ≢ b) → nat_cmp a b ≡ key_cmp (drop n x) (drop n y)
  apart f = sym (decides a b _ (ranks a b) f) ∙ by_eight
