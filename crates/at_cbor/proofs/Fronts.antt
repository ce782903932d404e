-- An argument that is read is the argument that was written, and what was written is read again.
use Rattle.std.proofs.Common.{◌≡◌, ℕ, ◌^◌, ◌<◌, ◌≤◌, Bool, true, false, cond, ltb, eqb, List, [], ◌∷◌, ◌++◌, length, take, drop, Option, Some, None, refl, sym, ap, subst, ◌∙◌, arith, inl, inr}
use Rattle.std.specs.Int.{Width, w8, w16, w32, w64, byte_len, from_be_bytes, to_be_bytes}
use Rattle.std.proofs.lemmas.Bool.{cases_lt, ltb-false, le-ltb, eqb-true}
use Rattle.std.proofs.lemmas.Bool.Decides.{nat_tests}
use Rattle.std.proofs.lemmas.List.{take_at, drop_at, take-append-drop, length-append, length-take}
use Rattle.std.proofs.lemmas.Nat.{be_bytes_2, be_bytes_4, be_bytes_8, from_be_bytes-to_be_bytes_2, from_be_bytes-to_be_bytes_4, from_be_bytes-to_be_bytes_8}
use Rattle.at_cid.specs.Link.{IsBytes}
use Rattle.at_cbor.specs.Heads.{wide_at, argument_at, least_of}
use Rattle.at_cbor.specs.Encoding.{info_of, tail_of}
use Rattle.at_cbor.proofs.Steps.{chosen, IsBytes-drop, IsBytes-take, Takes}

-- what a width of bytes says, both ways
pub record IsWide (w : Width) (limit : ℕ) : Type 0 where
  pub len : (n : ℕ) → length (to_be_bytes w n) ≡ byte_len w
  pub back : (bytes : List ℕ) → length bytes ≡ byte_len w → IsBytes bytes → to_be_bytes w (from_be_bytes w bytes) ≡ bytes
  pub again : (n : ℕ) → n < limit → from_be_bytes w (to_be_bytes w n) ≡ n
  pub below : (bytes : List ℕ) → IsBytes bytes → from_be_bytes w bytes < limit

pub wide16 : IsWide w16 (2 ^ 16)
wide16 = record {
  len = λ n. refl;
  back = λ bytes len fits. be_bytes_2 bytes _ len fits refl;
  again = λ n lt. from_be_bytes-to_be_bytes_2 n lt;
  below = λ bytes fits. omega (arith, fits 0, fits 1);
}

pub wide32 : IsWide w32 (2 ^ 32)
wide32 = record {
  len = λ n. refl;
  back = λ bytes len fits. be_bytes_4 bytes _ len fits refl;
  again = λ n lt. from_be_bytes-to_be_bytes_4 n lt;
  below = λ bytes fits. omega (arith, fits 0, fits 1, fits 2, fits 3);
}

pub wide64 : IsWide w64 (2 ^ 64)
wide64 = record {
  len = λ n. refl;
  back = λ bytes len fits. be_bytes_8 bytes _ len fits refl;
  again = λ n lt. from_be_bytes-to_be_bytes_8 n lt;
  below = λ bytes fits. omega (arith, fits 0, fits 1, fits 2, fits 3, fits 4, fits 5, fits 6, fits 7);
}

abbrev some : {A : Type 0} → A → Option A
some x = Some x

some_is : {A : Type 0} (x y : A) → some x ≡ some y → x ≡ y
some_is x y e = cc

guard_some : {A : Type 0} (b : Bool) (x y : A) → cond b None (some x) ≡ some y → (b ≡ false) × (x ≡ y)
guard_some true x y e = absurd cc
guard_some false x y e = (refl, cc)

-- a wide argument and what is behind it
pub wide_takes : (w : Width) (limit : ℕ) → IsWide w limit → (bytes : List ℕ) (x : ℕ × List ℕ) → IsBytes bytes → wide_at w bytes ≡ Some x → Takes bytes (to_be_bytes w x.0) x.1 × (x.0 < limit)
wide_takes w limit wide bytes x fits e =
    let g = guard_some (ltb (length bytes) (byte_len w)) (from_be_bytes w (take (byte_len w) bytes), drop (byte_len w) bytes) x e in
    let le : byte_len w ≤ length bytes = ltb-false (length bytes) (byte_len w) g.0 in
    let front : List ℕ = take (byte_len w) bytes in
    let len : length (take (byte_len w) bytes) ≡ byte_len w = omega (arith, length-take (byte_len w) bytes) in
    let front_fits = IsBytes-take (byte_len w) bytes fits in
    let parts : bytes ≡ to_be_bytes w (from_be_bytes w (take (byte_len w) bytes)) ++ drop (byte_len w) bytes = rw (wide.back (take (byte_len w) bytes) len front_fits) (sym (take-append-drop (byte_len w) bytes)) in
    let made : Takes bytes (to_be_bytes w (from_be_bytes w (take (byte_len w) bytes))) (drop (byte_len w) bytes) = record { parts = parts; rest_fits = IsBytes-drop (byte_len w) bytes fits } in
    subst (λ (y : ℕ × List ℕ). Takes bytes (to_be_bytes w y.0) y.1 × (y.0 < limit)) g.1 (made, wide.below (take (byte_len w) bytes) front_fits)

wide_again : (w : Width) (limit : ℕ) → IsWide w limit → (n : ℕ) (rest : List ℕ) → n < limit → wide_at w (to_be_bytes w n ++ rest) ≡ Some (n, rest)
wide_again w limit wide n rest lt =
    let len = wide.len n in
    let long : ltb (length (to_be_bytes w n ++ rest)) (byte_len w) ≡ false = le-ltb _ _ (omega (arith, length-append (to_be_bytes w n) rest)) in
    rw (long, take_at (to_be_bytes w n) rest (byte_len w) len, drop_at (to_be_bytes w n) rest (byte_len w) len, wide.again n lt) refl

-- the five forms
pub form_0 : (n : ℕ) → n < 24 → (info_of n ≡ n) × (tail_of n ≡ [])
unfolding info_of tail_of
form_0 n h = let a : ltb n 24 ≡ true = grind (arith, nat_tests) in (rw a refl, rw a refl)

pub form_1 : (n : ℕ) → 24 ≤ n → n < 2 ^ 8 → (info_of n ≡ 24) × (tail_of n ≡ n ∷ [])
unfolding info_of tail_of
form_1 n g h = let a : ltb n 24 ≡ false = le-ltb _ _ g in let b : ltb n (2 ^ 8) ≡ true = grind (arith, nat_tests) in (rw (a, b) refl, rw (a, b) refl)

pub form_2 : (n : ℕ) → 2 ^ 8 ≤ n → n < 2 ^ 16 → (info_of n ≡ 25) × (tail_of n ≡ to_be_bytes w16 n)
unfolding info_of tail_of
form_2 n g h =
    let a : ltb n 24 ≡ false = le-ltb _ _ (omega arith) in
    let b : ltb n (2 ^ 8) ≡ false = le-ltb _ _ g in
    let d : ltb n (2 ^ 16) ≡ true = grind (arith, nat_tests) in
    (rw (a, b, d) refl, rw (a, b, d) refl)

pub form_3 : (n : ℕ) → 2 ^ 16 ≤ n → n < 2 ^ 32 → (info_of n ≡ 26) × (tail_of n ≡ to_be_bytes w32 n)
unfolding info_of tail_of
form_3 n g h =
    let a : ltb n 24 ≡ false = le-ltb _ _ (omega arith) in
    let b : ltb n (2 ^ 8) ≡ false = le-ltb _ _ (omega arith) in
    let d : ltb n (2 ^ 16) ≡ false = le-ltb _ _ g in
    let e : ltb n (2 ^ 32) ≡ true = grind (arith, nat_tests) in
    (rw (a, b, d, e) refl, rw (a, b, d, e) refl)

form_4 : (n : ℕ) → 2 ^ 32 ≤ n → (info_of n ≡ 27) × (tail_of n ≡ to_be_bytes w64 n)
unfolding info_of tail_of
form_4 n g =
    let a : ltb n 24 ≡ false = le-ltb _ _ (omega arith) in
    let b : ltb n (2 ^ 8) ≡ false = le-ltb _ _ (omega arith) in
    let d : ltb n (2 ^ 16) ≡ false = le-ltb _ _ (omega arith) in
    let e : ltb n (2 ^ 32) ≡ false = le-ltb _ _ g in
    (rw (a, b, d, e) refl, rw (a, b, d, e) refl)

byte_back : (bytes : List ℕ) → length bytes ≡ 1 → IsBytes bytes → to_be_bytes w8 (from_be_bytes w8 bytes) ≡ bytes
byte_back [] len fits = absurd (omega (arith, len))
byte_back (x ∷ []) len fits = ap (λ (y : ℕ). y ∷ []) (omega (arith, fits 0))
byte_back (x ∷ y ∷ bytes) len fits = absurd (omega (arith, len))

pub wide8 : IsWide w8 (2 ^ 8)
wide8 = record {
  len = λ n. refl;
  back = byte_back;
  again = λ n lt. omega arith;
  below = λ bytes fits. omega (arith, fits 0);
}

byte_is : (n : ℕ) → n < 2 ^ 8 → to_be_bytes w8 n ≡ n ∷ []
byte_is n lt = ap (λ (y : ℕ). y ∷ []) (omega arith)

-- an argument in its shortest form
pub record IsArgument (info : ℕ) (bytes : List ℕ) (n : ℕ) (rest : List ℕ) : Type 0 where
  pub info_is : info ≡ info_of n
  pub taken : Takes bytes (tail_of n) rest
  pub below : n < 2 ^ 64

-- a form of so many bytes, from the least argument that needs it on
abbrev HasForm : Width → ℕ → ℕ → ℕ → Type 0
HasForm w info low limit = (n : ℕ) → low ≤ n → n < limit → (info_of n ≡ info) × (tail_of n ≡ to_be_bytes w n)

form_takes : (w : Width) (k low limit : ℕ) → IsWide w limit → HasForm w k low limit → limit ≤ 2 ^ 64 → least_of k ≡ low
    → (info : ℕ) (bytes : List ℕ) (x : ℕ × List ℕ) → eqb info k ≡ true → IsBytes bytes → wide_at w bytes ≡ Some x → ltb x.0 (least_of info) ≡ false → IsArgument info bytes x.0 x.1
form_takes w k low limit wide form fit lowest info bytes x t fits e least =
    let is = eqb-true info k t in
    let taken = wide_takes w limit wide bytes x fits e in
    let above : least_of info ≤ x.0 = ltb-false x.0 (least_of info) least in
    let enough : low ≤ x.0 = subst (λ (l : ℕ). l ≤ x.0) (ap least_of is ∙ lowest) above in
    let made = form x.0 enough taken.1 in
    record { info_is = is ∙ sym made.0; taken = rw made.1 taken.0; below = omega (arith, taken.1) }

form_one : HasForm w8 24 24 (2 ^ 8)
form_one n g h = let f = form_1 n g h in (f.0, f.1 ∙ sym (byte_is n h))

form_eight : HasForm w64 27 (2 ^ 32) (2 ^ 64)
form_eight n g h = form_4 n g

pub argument_takes : (info : ℕ) (bytes : List ℕ) (x : ℕ × List ℕ) → info < 28 → IsBytes bytes → argument_at info bytes ≡ Some x → ltb x.0 (least_of info) ≡ false → IsArgument info bytes x.0 x.1
unfolding argument_at
argument_takes info bytes x small fits e least =
    elim (chosen (eqb info 24) (wide_at w8 bytes) _ (Some x) e) [
      | inl (t, f) ↦ form_takes w8 24 24 (2 ^ 8) wide8 form_one (omega arith) refl info bytes x t fits f least
      | inr (t24, e25) ↦ elim (chosen (eqb info 25) (wide_at w16 bytes) _ (Some x) e25) [
        | inl (t, f) ↦ form_takes w16 25 (2 ^ 8) (2 ^ 16) wide16 form_2 (omega arith) refl info bytes x t fits f least
        | inr (t25, e26) ↦ elim (chosen (eqb info 26) (wide_at w32 bytes) _ (Some x) e26) [
          | inl (t, f) ↦ form_takes w32 26 (2 ^ 16) (2 ^ 32) wide32 form_3 (omega arith) refl info bytes x t fits f least
          | inr (t26, e27) ↦ elim (chosen (eqb info 27) (wide_at w64 bytes) _ (Some x) e27) [
            | inl (t, f) ↦ form_takes w64 27 (2 ^ 32) (2 ^ 64) wide64 form_eight (omega arith) refl info bytes x t fits f least
            | inr (t27, f) ↦
                let low : info < 24 = grind (arith, nat_tests) in
                let form = form_0 info low in
                let made : IsArgument info bytes info bytes = record { info_is = sym form.0; taken = rw form.1 (record { parts = refl; rest_fits = fits }); below = omega arith } in
                subst (λ (y : ℕ × List ℕ). IsArgument info bytes y.0 y.1) (some_is (info, bytes) x f) made
          ]
        ]
      ]
    ]

-- what an argument's shortest form is read as
pub record ReadsArgument (n : ℕ) (rest : List ℕ) : Type 0 where
  pub info_below : info_of n < 28
  pub found : argument_at (info_of n) (tail_of n ++ rest) ≡ Some (n, rest)
  pub shortest : ltb n (least_of (info_of n)) ≡ false

form_again : (w : Width) (k low limit : ℕ) → IsWide w limit → HasForm w k low limit → k < 28 → least_of k ≡ low → ((bytes : List ℕ) → argument_at k bytes ≡ wide_at w bytes)
    → (n : ℕ) (rest : List ℕ) → low ≤ n → n < limit → ReadsArgument n rest
form_again w k low limit wide form small lowest reads n rest g h =
    let made = form n g h in
    let found : argument_at (info_of n) (tail_of n ++ rest) ≡ Some (n, rest) = rw (made.0, made.1) (reads (to_be_bytes w n ++ rest) ∙ wide_again w limit wide n rest h) in
    record {
      info_below = omega (arith, made.0);
      found = found;
      shortest = le-ltb n (least_of (info_of n)) (omega (arith, ap least_of made.0, lowest));
    }

-- the forms that an argument may take
argument_is_8 : (bytes : List ℕ) → argument_at 24 bytes ≡ wide_at w8 bytes
unfolding argument_at
argument_is_8 bytes = refl

argument_is_16 : (bytes : List ℕ) → argument_at 25 bytes ≡ wide_at w16 bytes
unfolding argument_at
argument_is_16 bytes = refl

argument_is_32 : (bytes : List ℕ) → argument_at 26 bytes ≡ wide_at w32 bytes
unfolding argument_at
argument_is_32 bytes = refl

argument_is_64 : (bytes : List ℕ) → argument_at 27 bytes ≡ wide_at w64 bytes
unfolding argument_at
argument_is_64 bytes = refl

pub argument_is_low : (info : ℕ) (bytes : List ℕ) → info < 24 → argument_at info bytes ≡ Some (info, bytes)
unfolding argument_at
argument_is_low info bytes h =
    let a : eqb info 24 ≡ false = grind (arith, nat_tests) in
    let b : eqb info 25 ≡ false = grind (arith, nat_tests) in
    let d : eqb info 26 ≡ false = grind (arith, nat_tests) in
    let e : eqb info 27 ≡ false = grind (arith, nat_tests) in
    rw (a, b, d, e) refl

least_low : (info : ℕ) → info < 24 → least_of info ≡ 0
least_low info h =
    let a : eqb info 24 ≡ false = grind (arith, nat_tests) in
    let b : eqb info 25 ≡ false = grind (arith, nat_tests) in
    let d : eqb info 26 ≡ false = grind (arith, nat_tests) in
    let e : eqb info 27 ≡ false = grind (arith, nat_tests) in
    rw (a, b, d, e) refl

pub argument_again : (n : ℕ) (rest : List ℕ) → n < 2 ^ 64 → ReadsArgument n rest
argument_again n rest h =
    elim (cases_lt n 24) [
      | inl lt ↦
          let form = form_0 n lt in
          record {
            info_below = omega (arith, form.0);
            found = rw (form.0, form.1) (argument_is_low n rest lt);
            shortest = le-ltb n (least_of (info_of n)) (omega (arith, ap least_of form.0, least_low n lt));
          }
      | inr g24 ↦ elim (cases_lt n (2 ^ 8)) [
        | inl lt ↦ form_again w8 24 24 (2 ^ 8) wide8 form_one (omega arith) refl argument_is_8 n rest g24 lt
        | inr g8 ↦ elim (cases_lt n (2 ^ 16)) [
          | inl lt ↦ form_again w16 25 (2 ^ 8) (2 ^ 16) wide16 form_2 (omega arith) refl argument_is_16 n rest g8 lt
          | inr g16 ↦ elim (cases_lt n (2 ^ 32)) [
            | inl lt ↦ form_again w32 26 (2 ^ 16) (2 ^ 32) wide32 form_3 (omega arith) refl argument_is_32 n rest g16 lt
            | inr g32 ↦ form_again w64 27 (2 ^ 32) (2 ^ 64) wide64 form_eight (omega arith) refl argument_is_64 n rest g32 h
          ]
        ]
      ]
    ]
