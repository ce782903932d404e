-- Paths ascend as their numbers do.
use Rattle.std.proofs.Common.{◌≡◌, ℕ, zero, suc, ◌+◌, ◌/◌, ◌%◌, ◌^◌, ◌<◌, ◌≤◌, true, false, ltb, List, [], ◌∷◌, ◌++◌, codes, refl, sym, ap, ◌∙◌, Less, arith}
use Rattle.std.specs.Ordering.{nat_cmp}
use Rattle.std.specs.Cmp.Lexicographic.{slice_cmp}
use Rattle.std.proofs.lemmas.Bool.{ltb-true, ltb-false, lt-ltb}
use native.Mathlib.Nat.{pow-suc, div-div-eq-div-mul, le-div_iff_mul-le, div-mul-le_self, div-eq_of_lt, one-le-pow}
use Rattle.at_cid.specs.Order.{key_cmp}
use Rattle.relay_gen.specs.Names.{digits, generated_path}

next_front : (m k : ℕ) → m / 10 ^ k / 10 ≡ m / 10 ^ suc k
next_front m k = div-div-eq-div-mul m (10 ^ k) 10 ∙ ap (λ p. m / p) (sym (pow-suc 10 k))

front_up : (m n k : ℕ) → m < n → m / 10 ^ k ≤ n / 10 ^ k
front_up m n k low = let pos : 0 < 10 ^ k = one-le-pow k 10 (omega arith) in let below = div-mul-le_self m (10 ^ k) in (le-div_iff_mul-le pos).1 (omega arith)

same_digit : (a b : ℕ) (xs ys : List ℕ) → a ≡ b → slice_cmp nat_cmp xs ys ≡ Less → slice_cmp nat_cmp (a ∷ xs) (b ∷ ys) ≡ Less
same_digit a b xs ys e l = rw e (grind arith)

less_digit : (a b : ℕ) (xs ys : List ℕ) → a < b → slice_cmp nat_cmp (a ∷ xs) (b ∷ ys) ≡ Less
less_digit a b xs ys l = rw (lt-ltb a b l) refl

digit_step : (k m n a b : ℕ) → a ≤ b → a / 10 ≡ b / 10 → (a ≡ b → slice_cmp nat_cmp (digits k m) (digits k n) ≡ Less) → slice_cmp nat_cmp ((48 + a % 10) ∷ digits k m) ((48 + b % 10) ∷ digits k n) ≡ Less
digit_step k m n a b up f ih =
    elim (ltb a b) as (λ x. ltb a b ≡ x → slice_cmp nat_cmp ((48 + a % 10) ∷ digits k m) ((48 + b % 10) ∷ digits k n) ≡ Less) [
      | true ↦ λ e. let low = ltb-true a b e in less_digit (48 + a % 10) (48 + b % 10) (digits k m) (digits k n) (omega arith)
      | false ↦ λ e. let high = ltb-false a b e in let same : a ≡ b = omega arith in same_digit (48 + a % 10) (48 + b % 10) (digits k m) (digits k n) (ap (λ x. 48 + x % 10) same) (ih same)
    ] refl

digits_less : (k m n : ℕ) → m < n → m / 10 ^ k ≡ n / 10 ^ k → slice_cmp nat_cmp (digits k m) (digits k n) ≡ Less
digits_less zero m n low e = absurd (omega arith)
digits_less (suc k) m n low e = digit_step k m n (m / 10 ^ k) (n / 10 ^ k) (front_up m n k low) (next_front m k ∙ e ∙ sym (next_front n k)) (λ same. digits_less k m n low same)

front_same : (a : ℕ) (x y : List ℕ) → slice_cmp nat_cmp (a ∷ x) (a ∷ y) ≡ slice_cmp nat_cmp x y
front_same a x y = grind arith

front_cmp : (A xs ys : List ℕ) → slice_cmp nat_cmp (A ++ xs) (A ++ ys) ≡ slice_cmp nat_cmp xs ys
front_cmp [] xs ys = refl
front_cmp (a ∷ A) xs ys = front_same a (A ++ xs) (A ++ ys) ∙ front_cmp A xs ys

-- the path of a smaller number comes first
pub path_less : (m n : ℕ) → m < n → n < 10 ^ 8 → key_cmp (generated_path m) (generated_path n) ≡ Less
unfolding key_cmp generated_path
path_less m n low most =
    front_cmp (codes "app.gen.item/") (digits 8 m) (digits 8 n)
    ∙ digits_less 8 m n low (div-eq_of_lt (omega arith) ∙ sym (div-eq_of_lt most))
