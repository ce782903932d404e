-- The text of a JSON value (RFC 8259, sections 3 to 7), with no blanks.
use Rattle.std.specs.Prelude.{ℕ, ◌/◌, ◌%◌, ◌==◌, ◌||◌, nat_lt, Bool, true, false, List, [], ◌∷◌, ◌++◌, flat_map, codes, decimal, if◌then◌else◌}
use Rattle.std.specs.Char.{digit_char}
use Rattle.std.specs.Fmt.{signed_decimal}
use Rattle.serde_json.specs.Data.{Num, unsigned, negative, float, Data, null, boolean, number, string, array, object, Items, no_items, item, Members, no_members, member}

-- What stands in a string for a byte: a quote, a backslash and the bytes below a blank are escaped,
-- in two characters where there are such.
abbrev pub escaped : ℕ → List ℕ
escaped b =
    if b == 34 || b == 92 then 92 ∷ b ∷ []
    else (if b == 8 then codes "\\b"
    else (if b == 12 then codes "\\f"
    else (if b == 10 then codes "\\n"
    else (if b == 13 then codes "\\r"
    else (if b == 9 then codes "\\t"
    else (if nat_lt b 32 then codes "\\u00" ++ (digit_char (b / 16) ∷ digit_char (b % 16) ∷ [])
    else b ∷ []))))))

-- a string, between quotes
abbrev pub string_text : List ℕ → List ℕ
string_text s = 34 ∷ (flat_map escaped s ++ 34 ∷ [])

abbrev pub boolean_text : Bool → List ℕ
boolean_text true = codes "true"
boolean_text false = codes "false"

-- an integer in decimal; a float has no text here
abbrev pub number_text : Num → List ℕ
number_text (unsigned n) = decimal n
number_text (negative z) = signed_decimal z
number_text (float x) = []

-- texts with commas between them
abbrev pub joined : List (List ℕ) → List ℕ
joined [] = []
joined (text ∷ []) = text
joined (text ∷ next ∷ texts) = text ++ 44 ∷ joined (next ∷ texts)

-- a name with a value's text behind its colon
abbrev pub member_text : List ℕ → List ℕ → List ℕ
member_text name value = string_text name ++ 58 ∷ value

-- an array stands in brackets, an object in braces
abbrev mutual
  pub json_text : Data → List ℕ
  json_text null = codes "null"
  json_text (boolean b) = boolean_text b
  json_text (number n) = number_text n
  json_text (string s) = string_text s
  json_text (array items) = 91 ∷ (joined (item_texts items) ++ 93 ∷ [])
  json_text (object members) = 123 ∷ (joined (member_texts members) ++ 125 ∷ [])

  pub item_texts : Items → List (List ℕ)
  item_texts no_items = []
  item_texts (item value items) = json_text value ∷ item_texts items

  pub member_texts : Members → List (List ℕ)
  member_texts no_members = []
  member_texts (member name value members) =
      member_text name (json_text value) ∷ member_texts members
