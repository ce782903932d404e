-- A link's text is text.
use Rattle.std.proofs.Common.{ℕ, zero, suc, ◌<◌, List, [], ◌∷◌, map, arith}
use Rattle.std.specs.List.{range_with_len}
use Rattle.std.specs.Prelude.{slice_index}
use Rattle.std.specs.Str.{IsUtf8}
use Rattle.std.proofs.lemmas.Bool.Decides.{nat_tests}
use Rattle.std.proofs.lemmas.Str.{IsUtf8-from_ascii}
use Rattle.at_cid.specs.Text.{five_bits, letter_at, letter_of, text_of}
use Rattle.at_cid.proofs.Texts.{five_bits_below}

letter_ascii : (bits : ℕ) → bits < 32 → letter_of bits < 128
letter_ascii bits below = grind (arith, nat_tests)

at_ascii : (bytes : List ℕ) (k : ℕ) → letter_at bytes k < 128
unfolding letter_at
at_ascii bytes k = letter_ascii (five_bits bytes k) (five_bits_below bytes k)

letters_ascii : (bytes ks : List ℕ) (i : ℕ) → slice_index (map (letter_at bytes) ks) i < 128
letters_ascii bytes [] i = omega arith
letters_ascii bytes (k ∷ ks) zero = at_ascii bytes k
letters_ascii bytes (k ∷ ks) (suc i) = letters_ascii bytes ks i

text_ascii : (bytes : List ℕ) (i : ℕ) → slice_index (text_of bytes) i < 128
text_ascii bytes zero = omega arith
text_ascii bytes (suc i) = letters_ascii bytes (range_with_len 0 58) i

pub text_utf8 : (bytes : List ℕ) → IsUtf8 (text_of bytes)
text_utf8 bytes = IsUtf8-from_ascii (text_of bytes) (text_ascii bytes)
