-- A DID, as the AT Protocol's specification of DIDs has it: `did:`, a method, `:` and an
-- identifier.
use Rattle.std.specs.Prelude.{◌≡◌, ℕ, ◌-◌, ◌<◌, ◌≤◌, List, [], ◌∷◌, ◌++◌, length, take, slice_index, Bool, ◌&&◌, ◌||◌, ◌==◌, nat_le, nat_lt, IsTrue, codes}
use Rattle.std.specs.List.{list_all, before_first, after_first}
use Rattle.std.specs.Str.{bytes_eq}
use Rattle.at_syntax.specs.Characters.{is_lower, is_alphanumeric}
use Rattle.at_syntax.specs.declared.did.TheConstants.{LONGEST_DID}

-- what an identifier may end with: a letter, a digit, `.`, `_` or `-`
abbrev pub is_final_character : ℕ → Bool
is_final_character c = is_alphanumeric c || c == 46 || c == 95 || c == 45

-- what an identifier is made of: these, `:` and `%`
abbrev pub is_identifier_character : ℕ → Bool
is_identifier_character c = is_final_character c || c == 58 || c == 37

-- The text is a DID. Its identifier is any characters of an identifier, with a final one at the
-- end.
pub record IsDid (text : List ℕ) : Type 0 where
  pub method : List ℕ
  pub front : List ℕ
  pub final : ℕ
  pub encoded : text ≡ codes "did:" ++ (method ++ (codes ":" ++ (front ++ final ∷ [])))
  pub method_there : 0 < length method
  pub method_letters : IsTrue (list_all is_lower method)
  pub front_characters : IsTrue (list_all is_identifier_character front)
  pub final_character : IsTrue (is_final_character final)
  pub short : length text ≤ LONGEST_DID

-- the same as a test, by the first two colons

abbrev pub is_colon : ℕ → Bool
is_colon c = c == 58

-- what stands before the first colon
abbrev pub scheme_of : List ℕ → List ℕ
scheme_of text = before_first is_colon text

-- what stands between the first two colons
abbrev pub method_of : List ℕ → List ℕ
method_of text = before_first is_colon (after_first is_colon text)

-- what stands behind the first two colons
abbrev pub identifier_of : List ℕ → List ℕ
identifier_of text = after_first is_colon (after_first is_colon text)

abbrev pub is_method : List ℕ → Bool
is_method text = nat_lt 0 (length text) && list_all is_lower text

abbrev pub is_identifier : List ℕ → Bool
is_identifier text = nat_lt 0 (length text) && list_all is_identifier_character
    (take (length text - 1) text) && is_final_character (slice_index text (length text - 1))

-- the scheme is `did`, and the rest is a method, a colon and an identifier
abbrev pub is_did_scheme : List ℕ → List ℕ → Bool
is_did_scheme scheme rest = bytes_eq scheme (codes "did")
    && is_method (before_first is_colon rest) && is_identifier (after_first is_colon rest)

unfoldable pub is_did : List ℕ → Bool
is_did text = nat_le (length text) LONGEST_DID
    && is_did_scheme (scheme_of text) (after_first is_colon text)
