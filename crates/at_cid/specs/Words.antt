-- The bytes of texts, which are kept in an array where they are few.
use Rattle.std.specs.Prelude.{ℕ, List, string_bytes}
use Rattle.at_cid.specs.declared.words.Kept.{Kept}
use Rattle.at_cid.specs.declared.words.Kept.TheVariants.{Short, Long}

-- the bytes that are kept: those in the array, or those of the string
abbrev pub kept_bytes : Kept → List ℕ
kept_bytes (Short text) = text
kept_bytes (Long text) = string_bytes text
