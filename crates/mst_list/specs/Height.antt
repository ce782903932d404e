-- The heights of keys. (Repository specification, MST structure: the layer of a key is the number
-- of leading zero bits of its SHA-256, two bits a layer.)
use Rattle.std.specs.Prelude.{ℕ, List, [], ◌∷◌, ◌/◌, ◌+◌, ◌==◌, if◌then◌else◌}
use Rattle.std.specs.Int as int
use Rattle.std.specs.Int.{w8}
use Rattle.sha2.specs.Sha256.{sha256}

-- the leading zero bits of bytes
unfoldable pub leading_zeros : List ℕ → ℕ
leading_zeros [] = 0
leading_zeros (b ∷ bs) = if b == 0 then 8 + leading_zeros bs else int.leading_zeros w8 b

-- the height of a key
unfoldable pub height : List ℕ → ℕ
height key = leading_zeros (sha256 key) / 2
