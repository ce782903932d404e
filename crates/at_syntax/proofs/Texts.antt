-- The digits of a TID are a text.
use Rattle.std.proofs.Common.{◌≡◌, ℕ, zero, suc, ◌<◌, true, List, [], ◌∷◌, arith}
use Rattle.std.specs.List.{list_all}
use Rattle.std.specs.Prelude.{slice_index}
use Rattle.std.specs.Str.{IsUtf8}
use Rattle.std.proofs.lemmas.Bool.{and_parts}
use Rattle.std.proofs.lemmas.Bool.Decides.{nat_tests}
use Rattle.std.proofs.lemmas.Str.{IsUtf8-from_ascii}
use Rattle.at_syntax.specs.Tid.{is_tid_character, digits_of}
use Rattle.at_syntax.proofs.Tids.{digits_known}

character_ascii : (c : ℕ) → is_tid_character c ≡ true → c < 128
character_ascii c h = grind (arith, nat_tests)

characters_ascii : (text : List ℕ) → list_all is_tid_character text ≡ true → (i : ℕ) → slice_index text i < 128
characters_ascii [] h i = omega arith
characters_ascii (c ∷ text) h zero = character_ascii c (and_parts (is_tid_character c) (list_all is_tid_character text) h).0
characters_ascii (c ∷ text) h (suc i) = characters_ascii text (and_parts (is_tid_character c) (list_all is_tid_character text) h).1 i

pub digits_ascii : (value i : ℕ) → slice_index (digits_of value) i < 128
digits_ascii value = characters_ascii (digits_of value) (digits_known value)

pub digits_utf8 : (value : ℕ) → IsUtf8 (digits_of value)
digits_utf8 value = IsUtf8-from_ascii (digits_of value) (digits_ascii value)
