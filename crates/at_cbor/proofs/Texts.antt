-- Facts about text.
use Rattle.std.proofs.Common.{◌≡◌, ◌<◌, ◌^◌, ℕ, Bool, true, false, List, length, refl, sym, arith}
use Rattle.std.specs.Str.{is_utf8, IsUtf8}
use Rattle.std.proofs.lemmas.Str.{IsUtf8-from_is_utf8}
use Rattle.at_cid.specs.Link.{IsBytes}
use Rattle.at_cid.proofs.Utf8.{is_utf8-true}
use Rattle.at_cbor.specs.Encoding.{IsString}

no_text : (bytes : List ℕ) (b : Bool) → b ≡ is_utf8 bytes → (IsUtf8 bytes → ⊥) → b ≡ false
no_text bytes true e h = absurd (h (IsUtf8-from_is_utf8 bytes (sym e)))
no_text bytes false e h = refl

pub is_utf8-false : (bytes : List ℕ) → (IsUtf8 bytes → ⊥) → is_utf8 bytes ≡ false
is_utf8-false bytes h = no_text bytes (is_utf8 bytes) refl h

pub ruleset tests_of_text = (is_utf8-true, is_utf8-false)

-- bytes by their type have an encoding
pub typed_string : (bytes : List ℕ) → IsBytes bytes → length bytes < 2 ^ 63 → IsString bytes
typed_string bytes are short = (omega (arith, short), are)
