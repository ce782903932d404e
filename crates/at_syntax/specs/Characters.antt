-- The kinds of characters that names are made of, by their codes.
use Rattle.std.specs.Prelude.{ℕ, Bool, ◌&&◌, ◌||◌, nat_le}

-- the code lies between two others, which count too
abbrev pub is_between : ℕ → ℕ → ℕ → Bool
is_between low high c = nat_le low c && nat_le c high

-- `a` to `z`
abbrev pub is_lower : ℕ → Bool
is_lower c = is_between 97 122 c

-- `A` to `Z`, `a` to `z` and `0` to `9`
abbrev pub is_alphanumeric : ℕ → Bool
is_alphanumeric c = is_between 65 90 c || is_lower c || is_between 48 57 c
