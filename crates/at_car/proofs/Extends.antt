-- What is read of bytes that aren't cut is read of all that they begin.
use Rattle.std.proofs.Common.{◌≡◌, ℕ, zero, suc, ◌+◌, ◌-◌, ◌*◌, ◌≤◌, List, [], ◌∷◌, ◌++◌, length, Bool, true, false, cond, ltb, eqb, take, drop, Option, Some, None, Result, Ok, Err, refl, ap, ◌∙◌, arith}
use Rattle.std.specs.Prelude.{◌||◌, option_map, option_and_then}
use Rattle.std.proofs.lemmas.Bool.{ltb-false}
use Rattle.std.proofs.lemmas.List.{length-append}
use Rattle.at_car.specs.declared.fault.CarFault.{CarFault}
use Rattle.at_car.specs.Varint.{number_at, lower, varint_at}
use Rattle.at_car.specs.Header.{header_at, measured_header, roots_in}
use Rattle.at_car.specs.Sections.{◌>>=◌, Section, section_in, measured_section, section_at}
use Rattle.at_car.specs.Cuts.{number_open, is_short, is_cut}

-- with more behind it
abbrev pub further : {A : Type 0} → List ℕ → Option (A × List ℕ) → Option (A × List ℕ)
further more o = option_map (λ x. (x.0, x.1 ++ more)) o

abbrev pub further_ok : {A : Type 0} → List ℕ → Result (A × List ℕ) CarFault → Result (A × List ℕ) CarFault
further_ok more r = r >>= λ x. Ok (x.0, x.1 ++ more)

pub neither : (a b : Bool) → (a || b) ≡ false → (a ≡ false) × (b ≡ false)
neither true b e = absurd (cc)
neither false b e = (refl, e)

lower_further : (byte : ℕ) (more : List ℕ) (o : Option (ℕ × List ℕ)) → lower byte (further more o) ≡ further more (lower byte o)
lower_further byte more None = refl
lower_further byte more (Some x) = elim (eqb x.0 0) as (λ t. cond t None (Some (byte - 128 + 128 * x.0, x.1 ++ more)) ≡ further more (cond t None (Some (byte - 128 + 128 * x.0, x.1)))) [ true ↦ refl | false ↦ refl ]

pub number_further : (most : ℕ) (bytes more : List ℕ) → number_open most bytes ≡ false → number_at most (bytes ++ more) ≡ further more (number_at most bytes)
unfolding number_at number_open
number_further zero bytes more e = refl
number_further (suc most) [] more e = absurd (cc)
number_further (suc most) (byte ∷ bytes) more e =
    elim (ltb byte 128) as (λ t. cond t false (number_open most bytes) ≡ false → cond t (Some (byte, bytes ++ more)) (lower byte (number_at most (bytes ++ more))) ≡ further more (cond t (Some (byte, bytes)) (lower byte (number_at most bytes)))) [
      | true ↦ λ h. refl
      | false ↦ λ h. ap (lower byte) (number_further most bytes more h) ∙ lower_further byte more (number_at most bytes)
    ] e

take_front : (n : ℕ) (xs more : List ℕ) → n ≤ length xs → take n (xs ++ more) ≡ take n xs
take_front zero xs more l = refl
take_front (suc n) [] more l = absurd (omega (arith, l))
take_front (suc n) (x ∷ xs) more l = ap (λ t. x ∷ t) (take_front n xs more (omega (arith, l)))

pub drop_front : (n : ℕ) (xs more : List ℕ) → n ≤ length xs → drop n (xs ++ more) ≡ drop n xs ++ more
drop_front zero xs more l = refl
drop_front (suc n) [] more l = absurd (omega (arith, l))
drop_front (suc n) (x ∷ xs) more l = drop_front n xs more (omega (arith, l))

not_less : (a b : ℕ) → b ≤ a → ltb a b ≡ false
not_less a b l = elim (ltb a b) as (λ t. ltb a b ≡ t → t ≡ false) [ true ↦ λ e. absurd (omega (arith, Rattle.std.proofs.lemmas.Bool.ltb-true a b e, l)) | false ↦ λ e. refl ] refl

header_measured : (more : List ℕ) (n : ℕ × List ℕ) → n.0 ≤ length n.1 → measured_header (n.0, n.1 ++ more) ≡ further more (measured_header n)
header_measured more n l =
    rw (not_less (length n.1) n.0 l, not_less (length (n.1 ++ more)) n.0 (omega (arith, length-append n.1 more, l)), take_front n.0 n.1 more l, drop_front n.0 n.1 more l)
    (elim (roots_in (take n.0 n.1)) as (λ o. option_map (λ roots. (roots, drop n.0 n.1 ++ more)) o ≡ further more (option_map (λ roots. (roots, drop n.0 n.1)) o)) [ None ↦ refl | Some r ↦ refl ])

header_next : (more : List ℕ) (o : Option (ℕ × List ℕ)) → is_short o ≡ false → option_and_then measured_header (further more o) ≡ further more (option_and_then measured_header o)
header_next more None e = refl
header_next more (Some n) e = header_measured more n (ltb-false (length n.1) n.0 e)

pub header_further : (bytes more : List ℕ) → is_cut bytes ≡ false → header_at (bytes ++ more) ≡ further more (header_at bytes)
unfolding header_at is_cut
header_further bytes more e =
    let p = neither (number_open 9 bytes) (is_short (varint_at bytes)) e in
    ap (option_and_then measured_header) (number_further 9 bytes more p.0) ∙ header_next more (varint_at bytes) p.1

section_measured : (place : ℕ) (more : List ℕ) (n : ℕ × List ℕ) → n.0 ≤ length n.1 → measured_section place (Some (n.0, n.1 ++ more)) ≡ further_ok more (measured_section place (Some n))
section_measured place more n l =
    rw (not_less (length n.1) n.0 l, not_less (length (n.1 ++ more)) n.0 (omega (arith, length-append n.1 more, l)), take_front n.0 n.1 more l, drop_front n.0 n.1 more l)
    (elim (ltb n.0 36) as (λ t. cond (t || false) (Err (CarFault.Section place)) (section_in place (take n.0 n.1) >>= λ s. Ok (s, drop n.0 n.1 ++ more)) ≡ further_ok more (cond (t || false) (Err (CarFault.Section place)) (section_in place (take n.0 n.1) >>= λ s. Ok (s, drop n.0 n.1)))) [
      | true ↦ refl
      | false ↦ elim (section_in place (take n.0 n.1)) as (λ r. (r >>= λ s. Ok (s, drop n.0 n.1 ++ more)) ≡ further_ok more (r >>= λ s. Ok (s, drop n.0 n.1))) [ Ok s ↦ refl | Err d ↦ refl ]
    ])

section_next : (place : ℕ) (more : List ℕ) (o : Option (ℕ × List ℕ)) → is_short o ≡ false → measured_section place (further more o) ≡ further_ok more (measured_section place o)
section_next place more None e = refl
section_next place more (Some n) e = section_measured place more n (ltb-false (length n.1) n.0 e)

pub section_further : (place : ℕ) (bytes more : List ℕ) → is_cut bytes ≡ false → section_at place (bytes ++ more) ≡ further_ok more (section_at place bytes)
unfolding section_at is_cut
section_further place bytes more e =
    let p = neither (number_open 9 bytes) (is_short (varint_at bytes)) e in
    ap (measured_section place) (number_further 9 bytes more p.0) ∙ section_next place more (varint_at bytes) p.1

-- of what is cut nothing is read
number_none : (most : ℕ) (bytes : List ℕ) → number_open most bytes ≡ true → number_at most bytes ≡ None
unfolding number_at number_open
number_none zero bytes e = absurd (cc)
number_none (suc most) [] e = refl
number_none (suc most) (byte ∷ bytes) e =
    elim (ltb byte 128) as (λ t. cond t false (number_open most bytes) ≡ true → cond t (Some (byte, bytes)) (lower byte (number_at most bytes)) ≡ None) [
      | true ↦ λ h. absurd (cc)
      | false ↦ λ h. ap (lower byte) (number_none most bytes h)
    ] e

header_short : (o : Option (ℕ × List ℕ)) → is_short o ≡ true → option_and_then measured_header o ≡ None
header_short None e = absurd (cc)
header_short (Some n) e = rw e refl

section_short : (place : ℕ) (o : Option (ℕ × List ℕ)) → is_short o ≡ true → measured_section place o ≡ Err (CarFault.Section place)
section_short place None e = absurd (cc)
section_short place (Some n) e = rw e (elim (ltb n.0 36) as (λ t. cond {A = Result (Section × List ℕ) CarFault} (t || true) (Err (CarFault.Section place)) (section_in place (take n.0 n.1) >>= λ s. Ok (s, drop n.0 n.1)) ≡ Err (CarFault.Section place)) [ true ↦ refl | false ↦ refl ])

pub header_cut : (bytes : List ℕ) → is_cut bytes ≡ true → header_at bytes ≡ None
unfolding header_at is_cut
header_cut bytes e =
    elim (number_open 9 bytes) as (λ t. number_open 9 bytes ≡ t → (t || is_short (varint_at bytes)) ≡ true → option_and_then measured_header (varint_at bytes) ≡ None) [
      | true ↦ λ p h. ap (option_and_then measured_header) (number_none 9 bytes p)
      | false ↦ λ p h. header_short (varint_at bytes) h
    ] refl e

pub section_cut : (place : ℕ) (bytes : List ℕ) → is_cut bytes ≡ true → section_at place bytes ≡ Err (CarFault.Section place)
unfolding section_at is_cut
section_cut place bytes e =
    elim (number_open 9 bytes) as (λ t. number_open 9 bytes ≡ t → (t || is_short (varint_at bytes)) ≡ true → measured_section place (varint_at bytes) ≡ Err (CarFault.Section place)) [
      | true ↦ λ p h. ap (measured_section place) (number_none 9 bytes p)
      | false ↦ λ p h. section_short place (varint_at bytes) h
    ] refl e

-- there are bytes where they aren't cut
pub some_bytes : (bytes : List ℕ) → is_cut bytes ≡ false → 1 ≤ length bytes
unfolding is_cut number_open
some_bytes [] e = absurd (cc)
some_bytes (b ∷ bytes) e = omega arith
