-- A major type and its number tell each other.
use Rattle.std.proofs.Common.{◌≡◌, ℕ, zero, suc, ◌+◌, ◌*◌, ◌/◌, ◌<◌, ◌⊎◌, inl, inr, true, false, ltb, refl, ap, ◌∙◌, arith}
use Rattle.std.specs.Prelude.{◌≢◌}
use Rattle.at_cbor.specs.declared.major.Major.{Major}
use Rattle.at_cbor.specs.Heads.{least_of, is_long}
use Rattle.at_cbor.specs.Majors.{major_number, major_from, major_in}

from_number : (major : Major) → major_from (major_number major) ≡ major
from_number Major.Unsigned = refl
from_number Major.Negative = refl
from_number Major.Bytes = refl
from_number Major.Text = refl
from_number Major.List = refl
from_number Major.Map = refl
from_number Major.Tag = refl
from_number Major.Simple = refl

number_from : (n : ℕ) → n < 8 → major_number (major_from n) ≡ n
number_from zero h = refl
number_from (suc zero) h = refl
number_from (suc (suc zero)) h = refl
number_from (suc (suc (suc zero))) h = refl
number_from (suc (suc (suc (suc zero)))) h = refl
number_from (suc (suc (suc (suc (suc zero))))) h = refl
number_from (suc (suc (suc (suc (suc (suc zero)))))) h = refl
number_from (suc (suc (suc (suc (suc (suc (suc zero))))))) h = refl
number_from (suc (suc (suc (suc (suc (suc (suc (suc n)))))))) h = absurd (omega (arith, h))

-- the number of the major type that a byte names
pub number_in : (first : ℕ) → first < 256 → major_number (major_in first) ≡ first / 32
unfolding major_in
number_in first small = number_from (first / 32) (omega (arith, small))

-- the major type that was written is named
pub major_again : (major : Major) (info : ℕ) → info < 32 → major_in (32 * major_number major + info) ≡ major
unfolding major_in
major_again major info small =
    let high : (32 * major_number major + info) / 32 ≡ major_number major = omega (arith, small) in
    ap major_from high ∙ from_number major

-- ---- arguments, which simple values don't have

-- an argument that is longer than needed is one of no simple value
pub long_of : (major : Major) (info n : ℕ) → is_long major info n ≡ true → (major ≢ Major.Simple) × (ltb n (least_of info) ≡ true)
long_of Major.Unsigned info n e = (λ same. absurd cc, e)
long_of Major.Negative info n e = (λ same. absurd cc, e)
long_of Major.Bytes info n e = (λ same. absurd cc, e)
long_of Major.Text info n e = (λ same. absurd cc, e)
long_of Major.List info n e = (λ same. absurd cc, e)
long_of Major.Map info n e = (λ same. absurd cc, e)
long_of Major.Tag info n e = (λ same. absurd cc, e)
long_of Major.Simple info n e = absurd cc

pub long_for : (major : Major) (info n : ℕ) → major ≢ Major.Simple → ltb n (least_of info) ≡ true → is_long major info n ≡ true
long_for Major.Unsigned info n other e = e
long_for Major.Negative info n other e = e
long_for Major.Bytes info n other e = e
long_for Major.Text info n other e = e
long_for Major.List info n other e = e
long_for Major.Map info n other e = e
long_for Major.Tag info n other e = e
long_for Major.Simple info n other e = absurd (other refl)

pub short_of : (major : Major) (info n : ℕ) → is_long major info n ≡ false → (major ≡ Major.Simple) ⊎ ((major ≢ Major.Simple) × (ltb n (least_of info) ≡ false))
short_of Major.Unsigned info n e = inr (λ same. absurd cc, e)
short_of Major.Negative info n e = inr (λ same. absurd cc, e)
short_of Major.Bytes info n e = inr (λ same. absurd cc, e)
short_of Major.Text info n e = inr (λ same. absurd cc, e)
short_of Major.List info n e = inr (λ same. absurd cc, e)
short_of Major.Map info n e = inr (λ same. absurd cc, e)
short_of Major.Tag info n e = inr (λ same. absurd cc, e)
short_of Major.Simple info n e = inl refl

pub short_for : (major : Major) (info n : ℕ) → ltb n (least_of info) ≡ false → is_long major info n ≡ false
short_for Major.Unsigned info n e = e
short_for Major.Negative info n e = e
short_for Major.Bytes info n e = e
short_for Major.Text info n e = e
short_for Major.List info n e = e
short_for Major.Map info n e = e
short_for Major.Tag info n e = e
short_for Major.Simple info n e = refl
