-- A TID, as the AT Protocol's specification of timestamp identifiers has it: the 13 digits of a
-- number of 64 bits in base 32, in an alphabet that ascends.
use Rattle.std.specs.Prelude.{◌≡◌, ℕ, ◌+◌, ◌-◌, ◌/◌, ◌%◌, ◌^◌, List, length, map, slice_index, Bool, ◌&&◌, ◌||◌, ◌==◌, nat_lt, if◌then◌else◌, Option, Some, None, IsTrue}
use Rattle.std.specs.List.{list_all, range_with_len}
use Rattle.std.specs.Int.Digits.{number_from_digits}
use Rattle.at_syntax.specs.Characters.{is_between, is_lower}
use Rattle.at_syntax.specs.declared.tid.TheConstants.{TID_LEN}

-- the alphabet: `2` to `7`, and then `a` to `z`
abbrev pub is_tid_character : ℕ → Bool
is_tid_character c = is_between 50 55 c || is_lower c

-- the first half of it, which a TID begins with: `2` to `7`, and then `a` to `j`
abbrev pub is_first_character : ℕ → Bool
is_first_character c = is_between 50 55 c || is_between 97 106 c

-- the text is a TID
pub record IsTid (text : List ℕ) : Type 0 where
  pub long : length text ≡ TID_LEN
  pub first : IsTrue (is_first_character (slice_index text 0))
  pub characters : IsTrue (list_all is_tid_character text)

-- the same as a test
unfoldable pub is_tid : List ℕ → Bool
is_tid text = length text == TID_LEN && is_first_character (slice_index text 0)
    && list_all is_tid_character text

-- the character of a digit below 32
abbrev pub character_of : ℕ → ℕ
character_of digit = if nat_lt digit 6 then 50 + digit else 91 + digit

-- the digit of a character
abbrev pub digit_of : ℕ → ℕ
digit_of c = if nat_lt c 97 then c - 50 else c - 91

-- the number that the characters are the digits of
abbrev pub tid_value : List ℕ → ℕ
tid_value text = number_from_digits 32 (map digit_of text)

-- the character at a place, counted from 0
unfoldable pub character_at : ℕ → ℕ → ℕ
character_at value place = character_of (value / 32 ^ (TID_LEN - 1 - place) % 32)

-- the characters of a number below 2^64
unfoldable pub digits_of : ℕ → List ℕ
digits_of value = map (character_at value) (range_with_len 0 TID_LEN)

-- the number of a text that is a TID
unfoldable pub tid_of : List ℕ → Option ℕ
tid_of text = if is_tid text then Some (tid_value text) else None
