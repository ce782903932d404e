-- A text that lies in place.
use Rattle.std.proofs.Common.{◌≡◌, ℕ, true, List, [], ◌∷◌, ◌++◌, length, take, refl, sym, ap, ◌∙◌, subst}
use Rattle.std.specs.Str.{is_utf8, IsUtf8}
use Rattle.std.proofs.lemmas.Str.{is_utf8-from_IsUtf8}

take_front : (xs ys : List ℕ) → take (length xs) (xs ++ ys) ≡ xs
take_front [] ys = refl
take_front (x ∷ xs) ys = ap (λ (l : List ℕ). x ∷ l) (take_front xs ys)

pub text_kept : (bytes copied rest : List ℕ) → copied ≡ bytes → IsUtf8 bytes → is_utf8 (take (length bytes) (copied ++ rest)) ≡ true
text_kept bytes copied rest same text =
    subst (λ (xs : List ℕ). is_utf8 xs ≡ true) (sym (ap (λ (xs : List ℕ). take (length bytes) (xs ++ rest)) same ∙ take_front bytes rest)) (is_utf8-from_IsUtf8 bytes text)
