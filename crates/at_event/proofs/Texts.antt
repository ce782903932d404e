-- Texts of ASCII are texts, the digits of a TID among them.
use Rattle.std.proofs.Common.{◌≡◌, ℕ, zero, suc, ◌<◌, ◌^◌, Bool, true, ltb, List, [], ◌∷◌, length, refl, arith}
use Rattle.std.specs.List.{list_all}
use Rattle.std.specs.Prelude.{slice_index}
use Rattle.std.specs.Str.{IsUtf8}
use Rattle.std.proofs.lemmas.Bool.{ltb-true, lt-ltb, and_parts, and_from}
use Rattle.std.proofs.lemmas.Bool.Decides.{nat_tests}
use Rattle.std.proofs.lemmas.Str.{is_utf8-from_IsUtf8, IsUtf8-from_ascii}
use Rattle.at_cid.specs.Link.{IsBytes}
use Rattle.at_cbor.specs.Encoding.{IsText}
use Rattle.at_syntax.specs.Tid.{IsTid, is_tid_character, digits_of}
use Rattle.at_syntax.proofs.Tids.{texts_known}

abbrev pub is_ascii_text : List ℕ → Bool
is_ascii_text text = list_all (λ c. ltb c 128) text

below_ascii : (text : List ℕ) → is_ascii_text text ≡ true → (i : ℕ) → slice_index text i < 128
below_ascii [] h i = omega arith
below_ascii (c ∷ text) h zero = ltb-true c 128 (and_parts (ltb c 128) (is_ascii_text text) h).0
below_ascii (c ∷ text) h (suc i) = below_ascii text (and_parts (ltb c 128) (is_ascii_text text) h).1 i

ascii_utf8 : (text : List ℕ) → is_ascii_text text ≡ true → IsUtf8 text
ascii_utf8 text h = IsUtf8-from_ascii text (below_ascii text h)

pub ascii_text : (text : List ℕ) → is_ascii_text text ≡ true → length text < 2 ^ 64 → IsText text
ascii_text text h short =
    let below = below_ascii text h in
    let bytes : IsBytes text = λ i. omega (arith, below i) in
    ((short, bytes), is_utf8-from_IsUtf8 text (ascii_utf8 text h))

character_ascii : (c : ℕ) → is_tid_character c ≡ true → c < 128
character_ascii c h = grind (arith, nat_tests)

characters_ascii : (text : List ℕ) → list_all is_tid_character text ≡ true → is_ascii_text text ≡ true
characters_ascii [] h = refl
characters_ascii (c ∷ text) h =
    let both = and_parts (is_tid_character c) (list_all is_tid_character text) h in
    and_from (ltb c 128) (is_ascii_text text) (lt-ltb c 128 (character_ascii c both.0)) (characters_ascii text both.1)

digits_tid : (value : ℕ) → value < 2 ^ 64 → IsTid (digits_of value)
digits_tid value h = (texts_known (digits_of value)).1 (value, h, refl)

pub digits_text : (value : ℕ) → value < 2 ^ 64 → IsText (digits_of value)
digits_text value h =
    let is = digits_tid value h in
    ascii_text (digits_of value) (characters_ascii (digits_of value) is.characters) (omega (arith, is.long))
