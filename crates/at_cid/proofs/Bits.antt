-- Five bits in a row lie in two bytes.
use Rattle.std.proofs.Common.{◌≡◌, ℕ, zero, suc, ◌+◌, ◌-◌, ◌*◌, ◌/◌, ◌%◌, ◌^◌, ◌<◌, List, get_or, refl, sym, subst, ◌∙◌, arith}
use Rattle.at_cid.specs.Link.{IsBytes}
use Rattle.at_cid.specs.Text.{bit_at, five_bits, bits_of_pair}

bit_of : (bytes : List ℕ) (place p s : ℕ) → place / 8 ≡ p → 7 - place % 8 ≡ s → bit_at bytes place ≡ get_or bytes p 0 / 2 ^ s % 2
bit_of bytes place p s e f = rw (e, f) refl

sum_0 : (a b : ℕ) → a < 256 → b < 256 → 16 * (a / 128 % 2) + 8 * (a / 64 % 2) + 4 * (a / 32 % 2) + 2 * (a / 16 % 2) + (a / 8 % 2) ≡ (a * 256 + b) / 2048 % 32
sum_0 a b ha hb = omega arith

sum_1 : (a b : ℕ) → a < 256 → b < 256 → 16 * (a / 4 % 2) + 8 * (a / 2 % 2) + 4 * (a / 1 % 2) + 2 * (b / 128 % 2) + (b / 64 % 2) ≡ (a * 256 + b) / 64 % 32
sum_1 a b ha hb = omega arith

sum_2 : (a b : ℕ) → a < 256 → b < 256 → 16 * (a / 32 % 2) + 8 * (a / 16 % 2) + 4 * (a / 8 % 2) + 2 * (a / 4 % 2) + (a / 2 % 2) ≡ (a * 256 + b) / 512 % 32
sum_2 a b ha hb = omega arith

sum_3 : (a b : ℕ) → a < 256 → b < 256 → 16 * (a / 1 % 2) + 8 * (b / 128 % 2) + 4 * (b / 64 % 2) + 2 * (b / 32 % 2) + (b / 16 % 2) ≡ (a * 256 + b) / 16 % 32
sum_3 a b ha hb = omega arith

sum_4 : (a b : ℕ) → a < 256 → b < 256 → 16 * (a / 8 % 2) + 8 * (a / 4 % 2) + 4 * (a / 2 % 2) + 2 * (a / 1 % 2) + (b / 128 % 2) ≡ (a * 256 + b) / 128 % 32
sum_4 a b ha hb = omega arith

sum_5 : (a b : ℕ) → a < 256 → b < 256 → 16 * (a / 64 % 2) + 8 * (a / 32 % 2) + 4 * (a / 16 % 2) + 2 * (a / 8 % 2) + (a / 4 % 2) ≡ (a * 256 + b) / 1024 % 32
sum_5 a b ha hb = omega arith

sum_6 : (a b : ℕ) → a < 256 → b < 256 → 16 * (a / 2 % 2) + 8 * (a / 1 % 2) + 4 * (b / 128 % 2) + 2 * (b / 64 % 2) + (b / 32 % 2) ≡ (a * 256 + b) / 32 % 32
sum_6 a b ha hb = omega arith

sum_7 : (a b : ℕ) → a < 256 → b < 256 → 16 * (a / 16 % 2) + 8 * (a / 8 % 2) + 4 * (a / 4 % 2) + 2 * (a / 2 % 2) + (a / 1 % 2) ≡ (a * 256 + b) / 256 % 32
sum_7 a b ha hb = omega arith

module _ (bytes : List ℕ) (fits : IsBytes bytes) (q : ℕ) where
  byte : ℕ → ℕ
  byte k = get_or bytes (5 * q + k) 0

  below : (k : ℕ) → byte k < 256
  unfolding byte
  below k = fits (5 * q + k)

  bit : (place p s : ℕ) → place / 8 ≡ 5 * q + p → 7 - place % 8 ≡ s → bit_at bytes place ≡ byte p / 2 ^ s % 2
  unfolding byte
  bit place p s e f = bit_of bytes place (5 * q + p) s e f

  at_0 : five_bits bytes (8 * q + 0) ≡ (byte 0 * 256 + byte 1) / 2 ^ 11 % 32
  unfolding five_bits
  at_0 = rw (
    bit (5 * (8 * q + 0)) 0 7 (omega arith) (omega arith),
    bit (5 * (8 * q + 0) + 1) 0 6 (omega arith) (omega arith),
    bit (5 * (8 * q + 0) + 2) 0 5 (omega arith) (omega arith),
    bit (5 * (8 * q + 0) + 3) 0 4 (omega arith) (omega arith),
    bit (5 * (8 * q + 0) + 4) 0 3 (omega arith) (omega arith),
  ) (sum_0 (byte 0) (byte 1) (below 0) (below 1))

  at_1 : five_bits bytes (8 * q + 1) ≡ (byte 0 * 256 + byte 1) / 2 ^ 6 % 32
  unfolding five_bits
  at_1 = rw (
    bit (5 * (8 * q + 1)) 0 2 (omega arith) (omega arith),
    bit (5 * (8 * q + 1) + 1) 0 1 (omega arith) (omega arith),
    bit (5 * (8 * q + 1) + 2) 0 0 (omega arith) (omega arith),
    bit (5 * (8 * q + 1) + 3) 1 7 (omega arith) (omega arith),
    bit (5 * (8 * q + 1) + 4) 1 6 (omega arith) (omega arith),
  ) (sum_1 (byte 0) (byte 1) (below 0) (below 1))

  at_2 : five_bits bytes (8 * q + 2) ≡ (byte 1 * 256 + byte 2) / 2 ^ 9 % 32
  unfolding five_bits
  at_2 = rw (
    bit (5 * (8 * q + 2)) 1 5 (omega arith) (omega arith),
    bit (5 * (8 * q + 2) + 1) 1 4 (omega arith) (omega arith),
    bit (5 * (8 * q + 2) + 2) 1 3 (omega arith) (omega arith),
    bit (5 * (8 * q + 2) + 3) 1 2 (omega arith) (omega arith),
    bit (5 * (8 * q + 2) + 4) 1 1 (omega arith) (omega arith),
  ) (sum_2 (byte 1) (byte 2) (below 1) (below 2))

  at_3 : five_bits bytes (8 * q + 3) ≡ (byte 1 * 256 + byte 2) / 2 ^ 4 % 32
  unfolding five_bits
  at_3 = rw (
    bit (5 * (8 * q + 3)) 1 0 (omega arith) (omega arith),
    bit (5 * (8 * q + 3) + 1) 2 7 (omega arith) (omega arith),
    bit (5 * (8 * q + 3) + 2) 2 6 (omega arith) (omega arith),
    bit (5 * (8 * q + 3) + 3) 2 5 (omega arith) (omega arith),
    bit (5 * (8 * q + 3) + 4) 2 4 (omega arith) (omega arith),
  ) (sum_3 (byte 1) (byte 2) (below 1) (below 2))

  at_4 : five_bits bytes (8 * q + 4) ≡ (byte 2 * 256 + byte 3) / 2 ^ 7 % 32
  unfolding five_bits
  at_4 = rw (
    bit (5 * (8 * q + 4)) 2 3 (omega arith) (omega arith),
    bit (5 * (8 * q + 4) + 1) 2 2 (omega arith) (omega arith),
    bit (5 * (8 * q + 4) + 2) 2 1 (omega arith) (omega arith),
    bit (5 * (8 * q + 4) + 3) 2 0 (omega arith) (omega arith),
    bit (5 * (8 * q + 4) + 4) 3 7 (omega arith) (omega arith),
  ) (sum_4 (byte 2) (byte 3) (below 2) (below 3))

  at_5 : five_bits bytes (8 * q + 5) ≡ (byte 3 * 256 + byte 4) / 2 ^ 10 % 32
  unfolding five_bits
  at_5 = rw (
    bit (5 * (8 * q + 5)) 3 6 (omega arith) (omega arith),
    bit (5 * (8 * q + 5) + 1) 3 5 (omega arith) (omega arith),
    bit (5 * (8 * q + 5) + 2) 3 4 (omega arith) (omega arith),
    bit (5 * (8 * q + 5) + 3) 3 3 (omega arith) (omega arith),
    bit (5 * (8 * q + 5) + 4) 3 2 (omega arith) (omega arith),
  ) (sum_5 (byte 3) (byte 4) (below 3) (below 4))

  at_6 : five_bits bytes (8 * q + 6) ≡ (byte 3 * 256 + byte 4) / 2 ^ 5 % 32
  unfolding five_bits
  at_6 = rw (
    bit (5 * (8 * q + 6)) 3 1 (omega arith) (omega arith),
    bit (5 * (8 * q + 6) + 1) 3 0 (omega arith) (omega arith),
    bit (5 * (8 * q + 6) + 2) 4 7 (omega arith) (omega arith),
    bit (5 * (8 * q + 6) + 3) 4 6 (omega arith) (omega arith),
    bit (5 * (8 * q + 6) + 4) 4 5 (omega arith) (omega arith),
  ) (sum_6 (byte 3) (byte 4) (below 3) (below 4))

  at_7 : five_bits bytes (8 * q + 7) ≡ (byte 4 * 256 + byte 5) / 2 ^ 8 % 32
  unfolding five_bits
  at_7 = rw (
    bit (5 * (8 * q + 7)) 4 4 (omega arith) (omega arith),
    bit (5 * (8 * q + 7) + 1) 4 3 (omega arith) (omega arith),
    bit (5 * (8 * q + 7) + 2) 4 2 (omega arith) (omega arith),
    bit (5 * (8 * q + 7) + 3) 4 1 (omega arith) (omega arith),
    bit (5 * (8 * q + 7) + 4) 4 0 (omega arith) (omega arith),
  ) (sum_7 (byte 4) (byte 5) (below 4) (below 5))

  paired : (k p s : ℕ) → 5 * k / 8 ≡ 5 * q + p → 11 - 5 * k % 8 ≡ s → (byte p * 256 + byte (p + 1)) / 2 ^ s % 32 ≡ bits_of_pair bytes k
  unfolding byte bits_of_pair
  paired k p s e f =
      let next : 5 * q + (p + 1) ≡ 5 * q + p + 1 = omega arith in
      rw (e, f, next) refl

  is_0 : five_bits bytes (8 * q + 0) ≡ bits_of_pair bytes (8 * q + 0)
  is_0 = at_0 ∙ paired (8 * q + 0) 0 11 (omega arith) (omega arith)

  is_1 : five_bits bytes (8 * q + 1) ≡ bits_of_pair bytes (8 * q + 1)
  is_1 = at_1 ∙ paired (8 * q + 1) 0 6 (omega arith) (omega arith)

  is_2 : five_bits bytes (8 * q + 2) ≡ bits_of_pair bytes (8 * q + 2)
  is_2 = at_2 ∙ paired (8 * q + 2) 1 9 (omega arith) (omega arith)

  is_3 : five_bits bytes (8 * q + 3) ≡ bits_of_pair bytes (8 * q + 3)
  is_3 = at_3 ∙ paired (8 * q + 3) 1 4 (omega arith) (omega arith)

  is_4 : five_bits bytes (8 * q + 4) ≡ bits_of_pair bytes (8 * q + 4)
  is_4 = at_4 ∙ paired (8 * q + 4) 2 7 (omega arith) (omega arith)

  is_5 : five_bits bytes (8 * q + 5) ≡ bits_of_pair bytes (8 * q + 5)
  is_5 = at_5 ∙ paired (8 * q + 5) 3 10 (omega arith) (omega arith)

  is_6 : five_bits bytes (8 * q + 6) ≡ bits_of_pair bytes (8 * q + 6)
  is_6 = at_6 ∙ paired (8 * q + 6) 3 5 (omega arith) (omega arith)

  is_7 : five_bits bytes (8 * q + 7) ≡ bits_of_pair bytes (8 * q + 7)
  is_7 = at_7 ∙ paired (8 * q + 7) 4 8 (omega arith) (omega arith)

  of_rest : (r : ℕ) → r < 8 → five_bits bytes (8 * q + r) ≡ bits_of_pair bytes (8 * q + r)
  of_rest zero h = is_0
  of_rest (suc zero) h = is_1
  of_rest (suc (suc zero)) h = is_2
  of_rest (suc (suc (suc zero))) h = is_3
  of_rest (suc (suc (suc (suc zero)))) h = is_4
  of_rest (suc (suc (suc (suc (suc zero))))) h = is_5
  of_rest (suc (suc (suc (suc (suc (suc zero)))))) h = is_6
  of_rest (suc (suc (suc (suc (suc (suc (suc zero))))))) h = is_7
  of_rest (suc (suc (suc (suc (suc (suc (suc (suc r)))))))) h = absurd (omega arith)

-- five bits in a row are those of the two bytes in which they lie
pub in_two_bytes : (bytes : List ℕ) → IsBytes bytes → (k : ℕ) → five_bits bytes k ≡ bits_of_pair bytes k
in_two_bytes bytes fits k =
    let split : 8 * (k / 8) + k % 8 ≡ k = omega arith in
    subst (λ (n : ℕ). five_bits bytes n ≡ bits_of_pair bytes n) split (of_rest bytes fits (k / 8) (k % 8) (omega arith))

pub bits_in_two : (bytes : List ℕ) → IsBytes bytes → (k : ℕ) → bits_of_pair bytes k ≡ five_bits bytes k
bits_in_two bytes fits k = sym (in_two_bytes bytes fits k)
