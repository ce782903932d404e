-- What holds of all TIDs and their texts.
use Rattle.std.specs.Prelude.{◌≡◌, ◌↔◌, ℕ, ◌<◌, ◌^◌, List, Some}
use Rattle.std.specs.Ordering.{nat_cmp}
use Rattle.std.specs.Cmp.Lexicographic.{slice_cmp}
use Rattle.at_syntax.specs.Tid.{IsTid, digits_of, tid_of}

-- what is written is read as the same number
abbrev pub WrittenTidsAreRead : Type 0
WrittenTidsAreRead = (value : ℕ) → value < 2 ^ 64 → tid_of (digits_of value) ≡ Some value

-- the texts are the digits of the numbers below 2^64, and no others
abbrev pub TextsAreTids : Type 0
TextsAreTids = (text : List ℕ)
    → IsTid text ↔ ((value : ℕ) × (value < 2 ^ 64) × (text ≡ digits_of value))

-- two numbers compare as their texts do, byte by byte
abbrev pub TidsOrderAsTexts : Type 0
TidsOrderAsTexts = (a b : ℕ) → a < 2 ^ 64 → b < 2 ^ 64
    → slice_cmp nat_cmp (digits_of a) (digits_of b) ≡ nat_cmp a b
