-- The front of a list of rows.
use Rattle.std.proofs.Common.{◌≡◌, ◌<◌, ◌≤◌, ℕ, [], ◌∷◌, true, false, refl, arith}
use Rattle.std.specs.Prelude.{nat_lt}
use Rattle.std.proofs.lemmas.Bool.Decides.{nat_tests}
use Rattle.at_cbor.specs.Encoding.{info_of, tail_of}

pub no_tail : (n : ℕ) → n < 24 → tail_of n ≡ []
unfolding tail_of
no_tail n less = let test : nat_lt n 24 ≡ true = grind (arith, nat_tests) in rw test refl

pub small_info : (n : ℕ) → n < 24 → info_of n ≡ n
unfolding info_of
small_info n less = let test : nat_lt n 24 ≡ true = grind (arith, nat_tests) in rw test refl

pub byte_tail : (n : ℕ) → 24 ≤ n → n ≤ 64 → tail_of n ≡ n ∷ []
unfolding tail_of
byte_tail n more less =
    let test : nat_lt n 24 ≡ false = grind (arith, nat_tests) in
    let next : nat_lt n 256 ≡ true = grind (arith, nat_tests) in
    rw (test, next) refl

pub byte_info : (n : ℕ) → 24 ≤ n → n ≤ 64 → info_of n ≡ 24
unfolding info_of
byte_info n more less =
    let test : nat_lt n 24 ≡ false = grind (arith, nat_tests) in
    let next : nat_lt n 256 ≡ true = grind (arith, nat_tests) in
    rw (test, next) refl
