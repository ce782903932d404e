-- A link as text: `b`, and the base32 of RFC 4648 in lower case, without padding.
use Rattle.std.specs.Prelude.{ℕ, ◌+◌, ◌-◌, ◌*◌, ◌/◌, ◌%◌, ◌^◌, List, ◌∷◌, map, slice_index, nat_lt, ◌&&◌, nat_le, if◌then◌else◌}
use Rattle.std.specs.List.{range_with_len}
use Rattle.at_cid.specs.declared.cid.TheConstants.{LINK_LEN}
use Rattle.at_cid.specs.declared.text.TheConstants.{LETTERS}

-- the letter of five bits: `a` to `z`, and then `2` to `7`
abbrev pub letter_of : ℕ → ℕ
letter_of bits = if nat_lt bits 26 then 97 + bits else 24 + bits

-- the bit at a place. Place 0 is the highest bit of the first byte; bits after the last byte are 0
abbrev pub bit_at : List ℕ → ℕ → ℕ
bit_at bytes place = slice_index bytes (place / 8) / 2 ^ (7 - place % 8) % 2

-- the number that the five bits from the place 5 * k on make
unfoldable pub five_bits : List ℕ → ℕ → ℕ
five_bits bytes k = 16 * bit_at bytes (5 * k) + 8 * bit_at bytes (5 * k + 1)
    + 4 * bit_at bytes (5 * k + 2) + 2 * bit_at bytes (5 * k + 3) + bit_at bytes (5 * k + 4)

-- the same number, found in the two bytes in which these bits lie
unfoldable pub bits_of_pair : List ℕ → ℕ → ℕ
bits_of_pair bytes k = (slice_index bytes (5 * k / 8) * 256 + slice_index bytes (5 * k / 8 + 1))
    / 2 ^ (11 - 5 * k % 8) % 32

-- the letter at a place, counted from 0
unfoldable pub letter_at : List ℕ → ℕ → ℕ
letter_at bytes k = letter_of (five_bits bytes k)

-- the text of a link's bytes
abbrev pub text_of : List ℕ → List ℕ
text_of bytes = 98 ∷ map (letter_at bytes) (range_with_len 0 LETTERS)

-- the five bits of a letter, and 0 for what is none
abbrev pub digit_of : ℕ → ℕ
digit_of letter = if nat_le 97 letter && nat_le letter 122 then letter - 97
    else (if nat_le 50 letter && nat_le letter 55 then letter - 24 else 0)

-- eight bits of those that the letters behind the `b` stand for, from the bit at 8 * i on
unfoldable pub octet_at : List ℕ → ℕ → ℕ
octet_at text i = let at = 8 * i / 5 + 1 in
    (digit_of (slice_index text at) * 1024 + digit_of (slice_index text (at + 1)) * 32
    + digit_of (slice_index text (at + 2))) / 2 ^ (7 - 8 * i % 5) % 256

-- the bytes of a link that the letters stand for
abbrev pub octets_of : List ℕ → List ℕ
octets_of text = map (octet_at text) (range_with_len 0 LINK_LEN)
