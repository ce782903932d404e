-- Texts that are kept in an array.
use Rattle.std.specs.Prelude.{◌≡◌, ℕ, ◌≤◌, List, take, true}
use Rattle.std.specs.Str.{is_utf8}
use Rattle.at_cid.specs.declared.short_text.TheConstants.{MOST_SHORT_BYTES}

-- the first bytes of the array, so many, are no more than it has, and are UTF-8
pub record IsShort (count : ℕ) (bytes : List ℕ) : Type 0 where
  pub within : count ≤ MOST_SHORT_BYTES
  pub utf8 : is_utf8 (take count bytes) ≡ true
