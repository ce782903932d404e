-- A table of an authority as text (a format of this project): lines, each with a line feed behind
-- it, in which a blank separates two fields.
use Rattle.std.specs.Prelude.{◌≡◌, ◌≢◌, ℕ, ◌+◌, ◌%◌, List, [], ◌∷◌, ◌++◌, length, Bool, false, ◌&&◌, ◌||◌, ◌==◌, ◌⊎◌, nat_lt, if◌then◌else◌, Option, Some, None, IsTrue, codes, All}
use Rattle.std.specs.List.{list_all, list_any, before_first, after_first}
use Rattle.std.specs.Option.{option_or}
use Rattle.std.specs.Str.{bytes_eq}
use Rattle.hex.specs.Hex.{encode_lower}
use Rattle.at_syntax.specs.Characters.{is_between}
use Rattle.at_syntax.specs.Did.{is_did}
use Rattle.at_syntax.specs.Host.{is_host}
use Rattle.at_authority.specs.Queries.{Query, asks_home, asks_verdict}

-- the home of a DID is a host
abbrev pub home_line : List ℕ → List ℕ → List ℕ
home_line did host = codes "home " ++ (did ++ (codes " " ++ host))

-- every verdict on a DID is good
abbrev pub trust_line : List ℕ → List ℕ
trust_line did = codes "trust " ++ did

-- what a DID's line says of a digest and a signature, both in hexadecimal
abbrev pub signed_part : List ℕ → List ℕ → List ℕ → List ℕ
signed_part did digest sig = did ++ (codes " " ++ (digest ++ (codes " " ++ sig)))

-- this digest with this signature is good for a DID
abbrev pub good_line : List ℕ → List ℕ → List ℕ → List ℕ
good_line did digest sig = codes "good " ++ signed_part did digest sig

-- a hexadecimal digit, in lower case
abbrev pub is_digit : ℕ → Bool
is_digit c = is_between 48 57 c || is_between 97 102 c

-- 32 bytes in hexadecimal
unfoldable pub is_digest : List ℕ → Bool
is_digest text = length text == 64 && list_all is_digit text

-- at least one byte in hexadecimal
unfoldable pub is_signature : List ℕ → Bool
is_signature text = nat_lt 0 (length text) && length text % 2 == 0 && list_all is_digit text

pub record IsHomeLine (line : List ℕ) : Type 0 where
  pub did : List ℕ
  pub host : List ℕ
  pub encoded : line ≡ home_line did host
  pub of_did : IsTrue (is_did did)
  pub of_host : IsTrue (is_host host)

pub record IsTrustLine (line : List ℕ) : Type 0 where
  pub did : List ℕ
  pub encoded : line ≡ trust_line did
  pub of_did : IsTrue (is_did did)

pub record IsGoodLine (line : List ℕ) : Type 0 where
  pub did : List ℕ
  pub digest : List ℕ
  pub sig : List ℕ
  pub encoded : line ≡ good_line did digest sig
  pub of_did : IsTrue (is_did did)
  pub of_digest : IsTrue (is_digest digest)
  pub of_sig : IsTrue (is_signature sig)

abbrev pub IsLine : List ℕ → Type 0
IsLine line = IsHomeLine line ⊎ (IsTrustLine line ⊎ IsGoodLine line)

-- the lines as one text
abbrev pub encoded : List (List ℕ) → List ℕ
encoded [] = []
encoded (line ∷ lines) = line ++ (10 ∷ encoded lines)

-- the text is a table of these lines
pub record IsTable (text : List ℕ) (lines : List (List ℕ)) : Type 0 where
  pub text_is : text ≡ encoded lines
  pub each : All IsLine lines

-- The text has so many lines of a table in front, and no further one behind them, but something
pub record IsBadAt (number : ℕ) (text : List ℕ) : Type 0 where
  pub front : List (List ℕ)
  pub rest : List ℕ
  pub text_is : text ≡ encoded front ++ rest
  pub each : All IsLine front
  pub number_is : number ≡ length front + 1
  pub there : rest ≢ []
  pub bad : (line more : List ℕ) → IsLine line → rest ≡ line ++ (10 ∷ more) → ⊥

-- what the lines say

abbrev pub is_line_feed : ℕ → Bool
is_line_feed c = c == 10

abbrev pub is_blank : ℕ → Bool
is_blank c = c == 32

-- what stands before the first blank, and behind it
abbrev pub first_field : List ℕ → List ℕ
first_field text = before_first is_blank text

abbrev pub other_fields : List ℕ → List ℕ
other_fields text = after_first is_blank text

-- the home that a line gives a DID
abbrev pub home_by : List ℕ → List ℕ → Option (List ℕ)
home_by did line =
    if bytes_eq (first_field line) (codes "home") && bytes_eq (first_field (other_fields line)) did
    then Some (other_fields (other_fields line)) else None

-- the home that the last such line gives it
abbrev pub home_in : List ℕ → List (List ℕ) → Option (List ℕ)
home_in did [] = None
home_in did (line ∷ lines) = option_or (home_in did lines) (home_by did line)

abbrev pub has_line : List ℕ → List (List ℕ) → Bool
has_line line lines = list_any (bytes_eq line) lines

abbrev pub is_named : List ℕ → Option (List ℕ) → Bool
is_named host None = false
is_named host (Some name) = bytes_eq name host

-- A host is the home of a DID where the last home line of the DID names it. A verdict is good where
-- there is a line that trusts the DID, or one with this digest and this signature
abbrev pub told_by : List (List ℕ) → Query → Bool
told_by lines (asks_home did host) = is_named host (home_in did lines)
told_by lines (asks_verdict did digest sig) = has_line (trust_line did) lines
    || has_line (good_line did (encode_lower digest) (encode_lower sig)) lines

-- the form of a line as a test, field by field

abbrev pub is_home_rest : List ℕ → Bool
is_home_rest rest = is_did (first_field rest) && is_host (other_fields rest)

abbrev pub is_signed_rest : List ℕ → Bool
is_signed_rest rest = is_digest (first_field rest) && is_signature (other_fields rest)

abbrev pub is_good_rest : List ℕ → Bool
is_good_rest rest = is_did (first_field rest) && is_signed_rest (other_fields rest)

-- the line is of a kind, and what stands behind the kind passes the test
abbrev pub is_of_kind : List ℕ → (List ℕ → Bool) → List ℕ → Bool
is_of_kind kind test line = bytes_eq (first_field line) kind && test (other_fields line)

unfoldable pub is_line : List ℕ → Bool
is_line line = is_of_kind (codes "home") is_home_rest line
    || (is_of_kind (codes "trust") is_did line || is_of_kind (codes "good") is_good_rest line)
