-- What is encoded so is read.
use Rattle.std.proofs.Common.{◌≡◌, ℕ, zero, suc, ◌-◌, ◌<◌, true, false, ltb, List, ◌++◌, length, Option, Some, None, Ok, refl, sym, ap, subst, ◌∙◌, append_assoc, arith}
use Rattle.std.specs.Str.{is_utf8}
use Rattle.std.proofs.lemmas.Bool.{le-ltb}
use Rattle.std.proofs.lemmas.List.{length-append, take_at, drop_at}
use Rattle.at_cbor.specs.declared.major.Major.{Major}
use Rattle.at_cbor.specs.declared.head.Head.{Head}
use Rattle.at_cbor.specs.Item.{Item, Items, no_items, item, Fields, no_fields, field, items_list, fields_list}
use Rattle.at_cbor.specs.Heads.{head_at}
use Rattle.at_cbor.specs.Encoding.{front_of, text_encoding, items_count, fields_count, encoding, items_encoding, fields_encoding, head_encoding, HeadFits, IsText, Fits, ItemsFit, FieldsFit}
use Rattle.at_cbor.specs.Reading.{◌>>=◌, Reading, string_at, text_at, key_of, key_at, items_at, fields_at, list_of, map_of, body_of, item_at, inside}
use Rattle.at_cbor.specs.Item.{is_above}
use Rattle.at_cbor.proofs.HeadLaws.{head_again}
use Rattle.at_cbor.proofs.Loops.{item_at_is}
use Rattle.at_cbor.proofs.Parts.{items_back, fields_back}

string_again : (left : ℕ) (text rest : List ℕ) → string_at left (length text) (text ++ rest) ≡ Ok (text, rest)
unfolding string_at
string_again left text rest =
    let long : ltb (length (text ++ rest)) (length text) ≡ false = le-ltb _ _ (omega (arith, length-append text rest)) in
    rw (long, take_at text rest (length text) refl, drop_at text rest (length text) refl) refl

text_again : (left : ℕ) (text rest : List ℕ) → is_utf8 text ≡ true → text_at left (length text) (text ++ rest) ≡ Ok (text, rest)
unfolding text_at
text_again left text rest is = rw (string_again left text rest, is) refl

-- a head that was written, and what a reader makes of it
after_head : {A : Type 0} (head : Head) (behind : List ℕ) (f : Head × List ℕ → Reading A) (answer : Reading A) → HeadFits head → f (head, behind) ≡ answer → (head_at (head_encoding head ++ behind) >>= f) ≡ answer
after_head head behind f answer holds e = ap (λ (r : Reading Head). r >>= f) (head_again head behind holds) ∙ e

key_again : (before : Option (List ℕ)) (key rest : List ℕ) → IsText key → is_above before key ≡ true → key_at before (text_encoding key ++ rest) ≡ Ok (key, rest)
unfolding key_at key_of
key_again before key rest fits above =
    let grouped : text_encoding key ++ rest ≡ front_of Major.Text (length key) ++ (key ++ rest) = append_assoc (front_of Major.Text (length key)) key rest in
    ap (key_at before) grouped
    ∙ after_head (Head.Text (length key)) (key ++ rest) _ (Ok (key, rest)) fits.0.0 (rw (text_again _ key rest fits.1, above) refl)

-- the reader reads the encoding of what fits
abbrev Complete : (List ℕ → Reading Item) → ℕ → Type 0
Complete r depth = (i : Item) (rest : List ℕ) → Fits i depth → r (encoding i ++ rest) ≡ Ok (i, rest)

module _ (r : List ℕ → Reading Item) (depth : ℕ) (complete : Complete r depth) where
  items_again : (is : Items) (rest : List ℕ) → ItemsFit is depth → items_at r (items_count is) (items_encoding is ++ rest) ≡ Ok (items_list is, rest)
  unfolding items_at
  items_again no_items rest fits = refl
  items_again (item i is) rest fits =
      let grouped : items_encoding (item i is) ++ rest ≡ encoding i ++ (items_encoding is ++ rest) = append_assoc (encoding i) (items_encoding is) rest in
      ap (items_at r (suc (items_count is))) grouped
      ∙ rw (complete i (items_encoding is ++ rest) fits.0, items_again is rest fits.1) refl

  fields_again : (before : Option (List ℕ)) (fs : Fields) (rest : List ℕ) → FieldsFit fs before depth → fields_at r before (fields_count fs) (fields_encoding fs ++ rest) ≡ Ok (fields_list fs, rest)
  unfolding fields_at
  fields_again before no_fields rest fits = refl
  fields_again before (field k i fs) rest fits =
      let grouped : fields_encoding (field k i fs) ++ rest ≡ text_encoding k ++ (encoding i ++ (fields_encoding fs ++ rest)) =
      append_assoc (text_encoding k) (encoding i ++ fields_encoding fs) rest ∙ ap (λ (l : List ℕ). text_encoding k ++ l) (append_assoc (encoding i) (fields_encoding fs) rest) in
      ap (fields_at r before (suc (fields_count fs))) grouped
      ∙ rw (key_again before k (encoding i ++ (fields_encoding fs ++ rest)) fits.0 fits.1, complete i (fields_encoding fs ++ rest) fits.2, fields_again (Some k) fs rest fits.3) refl

abbrev InsideComplete : Option (List ℕ → Reading Item) → ℕ → Type 0
InsideComplete None depth = depth ≡ 0
InsideComplete (Some r) depth = Complete r (depth - 1)

list_again : (inside : Option (List ℕ → Reading Item)) (depth left : ℕ) (is : Items) (rest : List ℕ) → InsideComplete inside depth → 0 < depth → ItemsFit is (depth - 1) → list_of inside left (items_count is) (items_encoding is ++ rest) ≡ Ok (Item.list is, rest)
list_again None depth left is rest none some fits = absurd (omega (arith, none))
list_again (Some r) depth left is rest complete some fits = rw (items_again r (depth - 1) complete is rest fits, items_back is) refl

map_again : (inside : Option (List ℕ → Reading Item)) (depth left : ℕ) (fs : Fields) (rest : List ℕ) → InsideComplete inside depth → 0 < depth → FieldsFit fs None (depth - 1) → map_of inside left (fields_count fs) (fields_encoding fs ++ rest) ≡ Ok (Item.map fs, rest)
map_again None depth left fs rest none some fits = absurd (omega (arith, none))
map_again (Some r) depth left fs rest complete some fits = rw (fields_again r (depth - 1) complete None fs rest fits, fields_back fs) refl

-- the reader of a whole item, which reads what is inside by another
abbrev reading_of : Option (List ℕ → Reading Item) → List ℕ → Reading Item
reading_of inside bytes = head_at bytes >>= λ h. body_of inside (length bytes) h.0 h.1

body_again : (inside : Option (List ℕ → Reading Item)) (depth : ℕ) → InsideComplete inside depth → Complete (reading_of inside) depth
unfolding body_of
body_again inside depth complete (Item.int z) rest fits = after_head (Head.Int z) rest _ (Ok (Item.int z, rest)) fits refl
body_again inside depth complete (Item.bytes bs) rest fits =
    ap (reading_of inside) (append_assoc (front_of Major.Bytes (length bs)) bs rest)
    ∙ after_head (Head.Bytes (length bs)) (bs ++ rest) _ (Ok (Item.bytes bs, rest)) fits.0 (rw (string_again _ bs rest) refl)
body_again inside depth complete (Item.text bs) rest fits =
    ap (reading_of inside) (append_assoc (front_of Major.Text (length bs)) bs rest)
    ∙ after_head (Head.Text (length bs)) (bs ++ rest) _ (Ok (Item.text bs, rest)) fits.0.0 (rw (text_again _ bs rest fits.1) refl)
body_again inside depth complete (Item.list is) rest fits =
    ap (reading_of inside) (append_assoc (front_of Major.List (items_count is)) (items_encoding is) rest)
    ∙ after_head (Head.List (items_count is)) (items_encoding is ++ rest) _ (Ok (Item.list is, rest)) fits.1 (list_again inside depth _ is rest complete fits.0 fits.2)
body_again inside depth complete (Item.map fs) rest fits =
    ap (reading_of inside) (append_assoc (front_of Major.Map (fields_count fs)) (fields_encoding fs) rest)
    ∙ after_head (Head.Map (fields_count fs)) (fields_encoding fs ++ rest) _ (Ok (Item.map fs, rest)) fits.1 (map_again inside depth _ fs rest complete fits.0 fits.2)
body_again inside depth complete (Item.link link) rest fits = after_head (Head.Link link) rest _ (Ok (Item.link link, rest)) fits refl
body_again inside depth complete (Item.bool b) rest fits = after_head (Head.Bool b) rest _ (Ok (Item.bool b, rest)) tt refl
body_again inside depth complete Item.null rest fits = after_head Head.Null rest _ (Ok (Item.null, rest)) tt refl

pub item_again : (depth : ℕ) → Complete (item_at depth) depth
item_again zero i rest fits = item_at_is zero (encoding i ++ rest) ∙ body_again None zero refl i rest fits
item_again (suc depth) i rest fits =
    let one_less : suc depth - 1 ≡ depth = omega arith in
    item_at_is (suc depth) (encoding i ++ rest)
    ∙ body_again (Some (item_at depth)) (suc depth) (subst (Complete (item_at depth)) (sym one_less) (item_again depth)) i rest fits
