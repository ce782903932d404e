-- Bytes with their length before them (own).
use Rattle.std.specs.Prelude.{ℕ, List, ◌++◌, length}
use Rattle.std.specs.Int.{to_be_bytes, w32}

-- the length in four bytes, the highest first, and the bytes
abbrev pub length_prefixed : List ℕ → List ℕ
length_prefixed bytes = to_be_bytes w32 (length bytes) ++ bytes
