-- What is written for a value is its text.
use Rattle.std.proofs.Common.{◌≡◌, ℕ, true, false, List, [], ◌∷◌, ◌++◌, refl, sym, ap, ◌∙◌, append_assoc, arith}
use Rattle.std.proofs.lemmas.Bool.Decides.{nat_tests}
use Rattle.std.specs.Prelude.{flat_map}
use Rattle.json.specs.Print.{escape_byte, quoted}
use Rattle.serde_json.specs.Data.{unsigned, negative, float, Data, null, boolean, number, string, array, object, Items, no_items, item, Members, no_members, member}
use Rattle.serde_json.specs.Written.{compact_text, items_text, members_text}
use Rattle.json_text.specs.Texts.{escaped, item_texts, joined, json_text, member_text, member_texts, string_text}

escaped_is : (b : ℕ) → escape_byte b ≡ escaped b
unfolding escape_byte
escaped_is b = grind (arith, nat_tests)

all_escaped : (s : List ℕ) → flat_map escape_byte s ≡ flat_map escaped s
all_escaped [] = refl
all_escaped (b ∷ s) =
    ap (λ (l : List ℕ). l ++ flat_map escape_byte s) (escaped_is b) ∙ ap (λ (l : List ℕ). escaped b ++ l) (all_escaped s)

quoted_is : (s : List ℕ) → quoted s ≡ string_text s
quoted_is s = ap (λ (l : List ℕ). 34 ∷ (l ++ 34 ∷ [])) (all_escaped s)

-- a text in front of others, behind which a bracket or a brace stands
in_front : (text rest : List ℕ) (close : ℕ) → text ++ 44 ∷ (rest ++ close ∷ []) ≡ (text ++ 44 ∷ rest) ++ close ∷ []
in_front text rest close = sym (append_assoc text (44 ∷ rest) (close ∷ []))

member_is : (name text value behind : List ℕ) → text ≡ value → quoted name ++ 58 ∷ (text ++ behind) ≡ member_text name value ++ behind
member_is name text value behind is =
    ap (λ (l : List ℕ). quoted name ++ 58 ∷ (l ++ behind)) is
    ∙ ap (λ (l : List ℕ). l ++ 58 ∷ (value ++ behind)) (quoted_is name)
    ∙ sym (append_assoc (string_text name) (58 ∷ value) behind)

mutual
  pub text_is : (value : Data) → compact_text value ≡ json_text value
  text_is null = refl
  text_is (boolean true) = refl
  text_is (boolean false) = refl
  text_is (number (unsigned n)) = refl
  text_is (number (negative z)) = refl
  text_is (number (float x)) = refl
  text_is (string s) = quoted_is s
  text_is (array items) = ap (λ (l : List ℕ). 91 ∷ l) (items_are items)
  text_is (object members) = ap (λ (l : List ℕ). 123 ∷ l) (members_are members)

  items_are : (items : Items) → items_text false items ≡ joined (item_texts items) ++ 93 ∷ []
  items_are no_items = refl
  items_are (item value no_items) = ap (λ (l : List ℕ). l ++ 93 ∷ []) (text_is value)
  items_are (item value (item next items)) =
      ap (λ (l : List ℕ). l ++ 44 ∷ items_text false (item next items)) (text_is value)
      ∙ ap (λ (l : List ℕ). json_text value ++ 44 ∷ l) (items_are (item next items))
      ∙ in_front (json_text value) (joined (item_texts (item next items))) 93

  members_are : (members : Members) → members_text false members ≡ joined (member_texts members) ++ 125 ∷ []
  members_are no_members = refl
  members_are (member name value no_members) = member_is name (compact_text value) (json_text value) (125 ∷ []) (text_is value)
  members_are (member name value (member next other members)) =
      member_is name (compact_text value) (json_text value) (44 ∷ members_text false (member next other members)) (text_is value)
      ∙ ap (λ (l : List ℕ). member_text name (json_text value) ++ 44 ∷ l) (members_are (member next other members))
      ∙ in_front (member_text name (json_text value)) (joined (member_texts (member next other members))) 125
