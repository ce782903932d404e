-- Requests: RFC 9112, by the grammar of `httparse`; the query of a target is a form (URL Standard,
-- section 5).
use Rattle.std.specs.Prelude.{ℕ, ◌≤◌, ◌==◌, ◌&&◌, nat_lt, nat_le, Bool, List, [], ◌∷◌, length, Option, Some, None, if◌then◌else◌}
use Rattle.std.specs.Char.{is_ascii_digit}
use Rattle.std.specs.List.{before_first, after_first, list_all}
use Rattle.std.specs.Str.{bytes_eq}
use Rattle.std.specs.Str.Lossy.{utf8_lossy}
use Rattle.std.specs.Str.Parse.{digits_value}
use Rattle.form_urlencoded.specs.Form.{decode}
use Rattle.httparse.specs.Grammar.{RequestHead, ReadsRequest}

-- the request begins with this head, which has at most so many header fields
abbrev pub BeginsWith : ℕ → List ℕ → RequestHead → Type 0
BeginsWith most request head =
    (rest : List ℕ) × ReadsRequest request head rest × (length head.fields ≤ most)

-- it begins with no such head
abbrev pub BeginsWithNone : ℕ → List ℕ → Type 0
BeginsWithNone most request = (head : RequestHead) → ¬ (BeginsWith most request head)

-- the path of a target: what stands before its first `?`
abbrev pub path_of : List ℕ → List ℕ
path_of target = before_first (λ b. b == 63) target

-- its query: what stands behind it
abbrev pub query_of : List ℕ → List ℕ
query_of target = after_first (λ b. b == 63) target

-- the text that an encoded name or value of a form stands for
abbrev pub form_text : List ℕ → List ℕ
form_text bytes = utf8_lossy (decode bytes)

-- the value of the first pair that has a name
abbrev pub first_named : List ℕ → List (List ℕ × List ℕ) → Option (List ℕ)
first_named name [] = None
first_named name (pair ∷ pairs) =
    if bytes_eq (form_text pair.0) name then Some (form_text pair.1) else first_named name pairs

-- decimal digits alone
abbrev pub are_digits : List ℕ → Bool
are_digits text = list_all is_ascii_digit text

-- the number that 1 to so many decimal digits are
abbrev pub decimal_in : ℕ → List ℕ → Option ℕ
decimal_in most text =
    if nat_lt 0 (length text) && nat_le (length text) most && are_digits text
    then Some (digits_value 10 text) else None
