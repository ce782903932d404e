-- The bytes of keys, which are kept in an array where they are few.
use Rattle.std.specs.Prelude.{ℕ, ◌≤◌, List, take}
use Rattle.mst_list.specs.declared.key_bytes.Kept.{Kept}
use Rattle.mst_list.specs.declared.key_bytes.Kept.TheVariants.{Short, Long}
use Rattle.at_cid.specs.declared.short_text.TheConstants.{MOST_SHORT_BYTES}

-- the bytes that are kept: the first ones of the array, or all
abbrev pub kept_bytes : Kept → List ℕ
kept_bytes (Short count bytes) = take count bytes
kept_bytes (Long bytes) = bytes

-- there are no more of them than the array has
abbrev pub IsKept : Kept → Type 0
IsKept (Short count bytes) = count ≤ MOST_SHORT_BYTES
IsKept (Long bytes) = Unit {0}
