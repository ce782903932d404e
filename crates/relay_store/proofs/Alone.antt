-- A row that has no room in the body of others has none behind it.
use Rattle.std.proofs.Common.{◌≡◌, ℕ, ◌+◌, ◌≤◌, ◌<◌, ◌^◌, ⊎_elim, Bool, true, false, List, [], ◌∷◌, ◌++◌, length, ap, arith, length-append}
use Rattle.std.specs.Prelude.{if◌then◌else◌, nat_lt}
use Rattle.std.specs.Int.{to_be_bytes, w16, w32, w64}
use Rattle.std.proofs.lemmas.Bool.{cases_lt}
use Rattle.std.proofs.lemmas.Bool.Decides.{nat_tests}
use Rattle.at_cbor.specs.declared.major.Major.{Major}
use Rattle.at_cbor.specs.Encoding.{front_of, tail_of}
use Rattle.gate_log.specs.Log.{LogState}
use Rattle.row_codec.specs.Bodies.{row_encoding, encoded_rows}
use Rattle.relay_row.specs.declared.row.Row.{Row}
use Rattle.row_codec.proofs.Bodies.{encoded_joined}
use Rattle.relay_store.specs.PendingBodies.{IsFull}
use Rattle.relay_store.proofs.Encodings.{length_body, length_one}

tail_by : Bool → Bool → Bool → Bool → ℕ → List ℕ
tail_by a b c d n = if a then [] else (if b then n ∷ [] else (if c then to_be_bytes w16 n else (if d then to_be_bytes w32 n else to_be_bytes w64 n)))

most_by : (a b c d : Bool) (n : ℕ) → length (tail_by a b c d n) ≤ 8
unfolding tail_by
most_by true b c d n = omega arith
most_by false true c d n = omega arith
most_by false false true d n = omega arith
most_by false false false true n = omega arith
most_by false false false false n = omega arith

short_by : (a b c d : Bool) (n : ℕ) → d ≡ true → length (tail_by a b c d n) ≤ 4
unfolding tail_by
short_by true b c d n is = omega arith
short_by false true c d n is = omega arith
short_by false false true d n is = omega arith
short_by false false false true n is = omega arith
short_by false false false false n is = let no : ⊥ = cc in absurd no

long_by : (a b c d : Bool) (n : ℕ) → a ≡ false → b ≡ false → c ≡ false → 4 ≤ length (tail_by a b c d n)
unfolding tail_by
long_by true b c d n one two three = let no : ⊥ = cc in absurd no
long_by false true c d n one two three = let no : ⊥ = cc in absurd no
long_by false false true d n one two three = let no : ⊥ = cc in absurd no
long_by false false false true n one two three = omega arith
long_by false false false false n one two three = omega arith

pub most_tail : (n : ℕ) → length (tail_of n) ≤ 8
unfolding tail_of tail_by
most_tail n = most_by (nat_lt n 24) (nat_lt n (2 ^ 8)) (nat_lt n (2 ^ 16)) (nat_lt n (2 ^ 32)) n

short_tail : (n : ℕ) → n < 2 ^ 32 → length (tail_of n) ≤ 4
unfolding tail_of tail_by
short_tail n below = let is : nat_lt n (2 ^ 32) ≡ true = grind (arith, nat_tests) in short_by (nat_lt n 24) (nat_lt n (2 ^ 8)) (nat_lt n (2 ^ 16)) (nat_lt n (2 ^ 32)) n is

long_tail : (n : ℕ) → 2 ^ 16 ≤ n → 4 ≤ length (tail_of n)
unfolding tail_of tail_by
long_tail n above =
    let one : nat_lt n 24 ≡ false = grind (arith, nat_tests) in
    let two : nat_lt n (2 ^ 8) ≡ false = grind (arith, nat_tests) in
    let three : nat_lt n (2 ^ 16) ≡ false = grind (arith, nat_tests) in
    long_by (nat_lt n 24) (nat_lt n (2 ^ 8)) (nat_lt n (2 ^ 16)) (nat_lt n (2 ^ 32)) n one two three

-- one item more makes the front of a list four bytes longer at most
front_step : (n : ℕ) → length (front_of Major.List (n + 1)) ≤ length (front_of Major.List n) + 4
front_step n = ⊎_elim
    (λ below. omega (arith, short_tail (n + 1) below))
    (λ above. omega (arith, most_tail (n + 1), long_tail n (omega (arith, above))))
    (cases_lt (n + 1) (2 ^ 32))

pub past_alone : (log : LogState) (rows : List Row) (row : Row) (e : ℕ) → IsFull log rows row e → log.most < e
past_alone log [] row e full = omega (arith, full.there, full.past)
past_alone log (first ∷ rows) row e full =
    let all = first ∷ rows in
    let count : length (all ++ row ∷ []) ≡ length all + 1 = length-append all (row ∷ []) in
    let front : length (front_of Major.List (length (all ++ row ∷ []))) ≡ length (front_of Major.List (length all + 1)) = ap (λ (n : ℕ). length (front_of Major.List n)) count in
    omega (
      arith,
      full.there,
      full.past,
      front,
      front_step (length all),
      length_body (all ++ row ∷ []),
      length_body all,
      length_one row,
      ap length (encoded_joined all (row ∷ [])),
      length-append (encoded_rows all) (row_encoding row ++ []),
      length-append (row_encoding row) [],
    )
