-- What is read is encoded so, and fits.
use Rattle.std.proofs.Common.{◌≡◌, ℕ, zero, suc, ◌-◌, ◌^◌, ◌<◌, ◌≤◌, true, ltb, List, [], ◌∷◌, ◌++◌, length, take, drop, Option, Some, None, Ok, refl, sym, ap, subst, ◌∙◌, append_assoc, arith}
use Rattle.std.specs.Prelude.{⊤}
use Rattle.std.specs.Str.{is_utf8}
use Rattle.std.proofs.lemmas.Bool.{ltb-false}
use Rattle.std.proofs.lemmas.List.{take-append-drop, length-take}
use Rattle.at_cid.specs.Link.{IsBytes}
use Rattle.at_cbor.specs.declared.major.Major.{Major}
use Rattle.at_cbor.specs.declared.fault.Cause.{Cause}
use Rattle.at_cbor.specs.declared.head.Head.{Head}
use Rattle.at_cbor.specs.Item.{Item, items_of, fields_of}
use Rattle.at_cbor.specs.Heads.{head_at}
use Rattle.at_cbor.specs.Encoding.{front_of, text_encoding, items_count, fields_count, encoding, items_encoding, fields_encoding, head_encoding, HeadFits, IsText, Fits, ItemsFit, FieldsFit}
use Rattle.at_cbor.specs.Reading.{Reading, string_at, text_at, key_of, key_at, items_at, fields_at, list_of, map_of, body_of, item_at, inside}
use Rattle.at_cbor.specs.Item.{is_above}
use Rattle.at_cbor.proofs.Steps.{bind_ok, guard_ok, passed_ok, ok_is, IsBytes-drop, IsBytes-take, Takes, Takes-then}
use Rattle.at_cbor.proofs.HeadLaws.{head_takes}
use Rattle.at_cbor.proofs.Loops.{item_at_is}

-- ---- strings and keys

-- so many bytes were taken, and they are bytes
abbrev pub IsTaken : List ℕ → ℕ → List ℕ × List ℕ → Type 0
IsTaken bytes n x = Takes bytes x.0 x.1 × (length x.0 ≡ n) × IsBytes x.0

pub string_takes : (left n : ℕ) (bytes : List ℕ) (x : List ℕ × List ℕ) → IsBytes bytes → string_at left n bytes ≡ Ok x → IsTaken bytes n x
unfolding string_at
string_takes left n bytes x fits e =
    let t = guard_ok (ltb (length bytes) n) (Cause.Short, left) (Ok (take n bytes, drop n bytes)) x e in
    let long : n ≤ length bytes = ltb-false (length bytes) n t.0 in
    let made : IsTaken bytes n (take n bytes, drop n bytes) = (record { parts = sym (take-append-drop n bytes); rest_fits = IsBytes-drop n bytes fits }, omega (arith, length-take n bytes), IsBytes-take n bytes fits) in
    subst (IsTaken bytes n) (ok_is (take n bytes, drop n bytes) x t.1) made

pub text_takes : (left n : ℕ) (bytes : List ℕ) (x : List ℕ × List ℕ) → IsBytes bytes → text_at left n bytes ≡ Ok x → IsTaken bytes n x × (is_utf8 x.0 ≡ true)
unfolding text_at
text_takes left n bytes x fits e =
    let s = bind_ok (string_at left n bytes) _ x e in
    let t = passed_ok (is_utf8 s.0.0) (Cause.BadText, left) (Ok s.0) x s.2 in
    subst (λ (y : List ℕ × List ℕ). IsTaken bytes n y × (is_utf8 y.0 ≡ true)) (ok_is s.0 x t.1) (string_takes left n bytes s.0 fits s.1, t.0)

abbrev pub IsKey : Option (List ℕ) → List ℕ → List ℕ × List ℕ → Type 0
IsKey before bytes x = Takes bytes (text_encoding x.0) x.1 × IsText x.0 × (is_above before x.0 ≡ true)

-- a front that says how long the text behind it is
pub behind_front : (major : Major) (n : ℕ) (bytes : List ℕ) (x : List ℕ × List ℕ) → IsTaken bytes n x → Takes (front_of major n ++ bytes) (front_of major (length x.0) ++ x.0) x.1
behind_front major n bytes x taken =
    let front : front_of major n ≡ front_of major (length x.0) = ap (front_of major) (sym taken.1) in
    record {
      parts = ap (λ (l : List ℕ). l ++ bytes) front ∙ ap (λ (l : List ℕ). front_of major (length x.0) ++ l) taken.0.parts ∙ sym (append_assoc (front_of major (length x.0)) x.0 x.1);
      rest_fits = taken.0.rest_fits;
    }

key_of_takes : (before : Option (List ℕ)) (left : ℕ) (head : Head) (rest : List ℕ) (x : List ℕ × List ℕ) → IsBytes rest → HeadFits head → key_of before left head rest ≡ Ok x → IsKey before (head_encoding head ++ rest) x
unfolding key_of
key_of_takes before left (Head.Text n) rest x fits holds e =
    let s = bind_ok (text_at left n rest) _ x e in
    let t = passed_ok (is_above before s.0.0) (Cause.KeyOrder, left) (Ok s.0) x s.2 in
    let taken = text_takes left n rest s.0 fits s.1 in
    let made : IsKey before (front_of Major.Text n ++ rest) s.0 = (behind_front Major.Text n rest s.0 taken.0, ((omega (arith, taken.0.1, holds), taken.0.2), taken.1), t.0) in
    subst (IsKey before (front_of Major.Text n ++ rest)) (ok_is s.0 x t.1) made
key_of_takes before left (Head.Int z) rest x fits holds e = absurd cc
key_of_takes before left (Head.Bytes n) rest x fits holds e = absurd cc
key_of_takes before left (Head.List n) rest x fits holds e = absurd cc
key_of_takes before left (Head.Map n) rest x fits holds e = absurd cc
key_of_takes before left (Head.Link link) rest x fits holds e = absurd cc
key_of_takes before left (Head.Bool b) rest x fits holds e = absurd cc
key_of_takes before left Head.Null rest x fits holds e = absurd cc

pub key_takes : (before : Option (List ℕ)) (bytes : List ℕ) (x : List ℕ × List ℕ) → IsBytes bytes → key_at before bytes ≡ Ok x → IsKey before bytes x
unfolding key_at
key_takes before bytes x fits e =
    let h = bind_ok (head_at bytes) _ x e in
    let head = head_takes bytes h.0 fits h.1 in
    let key = key_of_takes before (length bytes) h.0.0 h.0.1 x head.0.rest_fits head.1 h.2 in
    subst (λ (l : List ℕ). IsKey before l x) (sym head.0.parts) key

-- ---- items

abbrev pub IsItem : ℕ → List ℕ → Item × List ℕ → Type 0
IsItem depth bytes x = Takes bytes (encoding x.0) x.1 × Fits x.0 depth

-- what the reader answers is encoded so, and fits
abbrev pub Sound : (List ℕ → Reading Item) → ℕ → Type 0
Sound r depth = (bytes : List ℕ) (x : Item × List ℕ) → IsBytes bytes → r bytes ≡ Ok x → IsItem depth bytes x

module _ (r : List ℕ → Reading Item) (depth : ℕ) (sound : Sound r depth) where
  abbrev AreItems : ℕ → List ℕ → List Item × List ℕ → Type 0
  AreItems n bytes x = Takes bytes (items_encoding (items_of x.0)) x.1 × (items_count (items_of x.0) ≡ n) × ItemsFit (items_of x.0) depth

  items_take : (n : ℕ) (bytes : List ℕ) (x : List Item × List ℕ) → IsBytes bytes → items_at r n bytes ≡ Ok x → AreItems n bytes x
  unfolding items_at
  items_take zero bytes x fits e = subst (AreItems 0 bytes) (ok_is ([], bytes) x e) (record { parts = refl; rest_fits = fits }, refl, tt)
  items_take (suc n) bytes x fits e =
      let a = bind_ok (r bytes) _ x e in
      let b = bind_ok (items_at r n a.0.1) _ x a.2 in
      let first = sound bytes a.0 fits a.1 in
      let others = items_take n a.0.1 b.0 first.0.rest_fits b.1 in
      let both = Takes-then bytes (encoding a.0.0) a.0.1 (items_encoding (items_of b.0.0)) b.0.1 first.0 others.0 in
      subst (AreItems (suc n) bytes) (ok_is (a.0.0 ∷ b.0.0, b.0.1) x b.2) (both, ap suc others.1, (first.1, others.2))

  abbrev AreFields : Option (List ℕ) → ℕ → List ℕ → List (List ℕ × Item) × List ℕ → Type 0
  AreFields before n bytes x = Takes bytes (fields_encoding (fields_of x.0)) x.1 × (fields_count (fields_of x.0) ≡ n) × FieldsFit (fields_of x.0) before depth

  fields_take : (before : Option (List ℕ)) (n : ℕ) (bytes : List ℕ) (x : List (List ℕ × Item) × List ℕ) → IsBytes bytes → fields_at r before n bytes ≡ Ok x → AreFields before n bytes x
  unfolding fields_at
  fields_take before zero bytes x fits e = subst (AreFields before 0 bytes) (ok_is ([], bytes) x e) (record { parts = refl; rest_fits = fits }, refl, tt)
  fields_take before (suc n) bytes x fits e =
      let k = bind_ok (key_at before bytes) _ x e in
      let v = bind_ok (r k.0.1) _ x k.2 in
      let b = bind_ok (fields_at r (Some k.0.0) n v.0.1) _ x v.2 in
      let key = key_takes before bytes k.0 fits k.1 in
      let value = sound k.0.1 v.0 key.0.rest_fits v.1 in
      let others = fields_take (Some k.0.0) n v.0.1 b.0 value.0.rest_fits b.1 in
      let behind = Takes-then k.0.1 (encoding v.0.0) v.0.1 (fields_encoding (fields_of b.0.0)) b.0.1 value.0 others.0 in
      let all = Takes-then bytes (text_encoding k.0.0) k.0.1 (encoding v.0.0 ++ fields_encoding (fields_of b.0.0)) b.0.1 key.0 behind in
      subst (AreFields before (suc n) bytes) (ok_is ((k.0.0, v.0.0) ∷ b.0.0, b.0.1) x b.2) (all, ap suc others.1, (key.1, key.2, value.1, others.2))

abbrev InsideSound : Option (List ℕ → Reading Item) → ℕ → Type 0
InsideSound None depth = ⊤
InsideSound (Some r) depth = (0 < depth) × Sound r (depth - 1)

-- a front that says how many items or fields are behind it
behind_count : (major : Major) (n count : ℕ) (bytes text rest : List ℕ) → count ≡ n → Takes bytes text rest → Takes (front_of major n ++ bytes) (front_of major count ++ text) rest
behind_count major n count bytes text rest same taken =
    let front : front_of major n ≡ front_of major count = ap (front_of major) (sym same) in
    record {
      parts = ap (λ (l : List ℕ). l ++ bytes) front ∙ ap (λ (l : List ℕ). front_of major count ++ l) taken.parts ∙ sym (append_assoc (front_of major count) text rest);
      rest_fits = taken.rest_fits;
    }

list_takes : (inside : Option (List ℕ → Reading Item)) (depth left n : ℕ) (rest : List ℕ) (x : Item × List ℕ) → InsideSound inside depth → IsBytes rest → n < 2 ^ 64 → list_of inside left n rest ≡ Ok x → IsItem depth (front_of Major.List n ++ rest) x
list_takes None depth left n rest x sound fits below e = absurd cc
list_takes (Some r) depth left n rest x sound fits below e =
    let s = bind_ok (items_at r n rest) _ x e in
    let items = items_take r (depth - 1) sound.1 n rest s.0 fits s.1 in
    let made : IsItem depth (front_of Major.List n ++ rest) (Item.list (items_of s.0.0), s.0.1) =
    (behind_count Major.List n (items_count (items_of s.0.0)) rest (items_encoding (items_of s.0.0)) s.0.1 items.1 items.0, (sound.0, omega (arith, items.1, below), items.2)) in
    subst (IsItem depth (front_of Major.List n ++ rest)) (ok_is (Item.list (items_of s.0.0), s.0.1) x s.2) made

map_takes : (inside : Option (List ℕ → Reading Item)) (depth left n : ℕ) (rest : List ℕ) (x : Item × List ℕ) → InsideSound inside depth → IsBytes rest → n < 2 ^ 64 → map_of inside left n rest ≡ Ok x → IsItem depth (front_of Major.Map n ++ rest) x
map_takes None depth left n rest x sound fits below e = absurd cc
map_takes (Some r) depth left n rest x sound fits below e =
    let s = bind_ok (fields_at r None n rest) _ x e in
    let fields = fields_take r (depth - 1) sound.1 None n rest s.0 fits s.1 in
    let made : IsItem depth (front_of Major.Map n ++ rest) (Item.map (fields_of s.0.0), s.0.1) =
    (behind_count Major.Map n (fields_count (fields_of s.0.0)) rest (fields_encoding (fields_of s.0.0)) s.0.1 fields.1 fields.0, (sound.0, omega (arith, fields.1, below), fields.2)) in
    subst (IsItem depth (front_of Major.Map n ++ rest)) (ok_is (Item.map (fields_of s.0.0), s.0.1) x s.2) made

-- an item that is all head
plain_takes : (depth : ℕ) (head : Head) (made : Item) (rest : List ℕ) (x : Item × List ℕ) → IsBytes rest → encoding made ≡ head_encoding head → Fits made depth → (let r : Reading Item = Ok (made, rest) in r) ≡ Ok x → IsItem depth (head_encoding head ++ rest) x
plain_takes depth head made rest x fits encoded holds e =
    subst (IsItem depth (head_encoding head ++ rest)) (ok_is (made, rest) x e) (record { parts = ap (λ (l : List ℕ). l ++ rest) (sym encoded); rest_fits = fits }, holds)

body_takes : (inside : Option (List ℕ → Reading Item)) (depth left : ℕ) (head : Head) (rest : List ℕ) (x : Item × List ℕ) → InsideSound inside depth → IsBytes rest → HeadFits head → body_of inside left head rest ≡ Ok x → IsItem depth (head_encoding head ++ rest) x
unfolding body_of
body_takes inside depth left (Head.Int z) rest x sound fits holds e = plain_takes depth (Head.Int z) (Item.int z) rest x fits refl holds e
body_takes inside depth left (Head.Bytes n) rest x sound fits holds e =
    let s = bind_ok (string_at left n rest) _ x e in
    let taken = string_takes left n rest s.0 fits s.1 in
    let made : IsItem depth (front_of Major.Bytes n ++ rest) (Item.bytes s.0.0, s.0.1) = (behind_front Major.Bytes n rest s.0 taken, (omega (arith, taken.1, holds), taken.2)) in
    subst (IsItem depth (front_of Major.Bytes n ++ rest)) (ok_is (Item.bytes s.0.0, s.0.1) x s.2) made
body_takes inside depth left (Head.Text n) rest x sound fits holds e =
    let s = bind_ok (text_at left n rest) _ x e in
    let taken = text_takes left n rest s.0 fits s.1 in
    let made : IsItem depth (front_of Major.Text n ++ rest) (Item.text s.0.0, s.0.1) = (behind_front Major.Text n rest s.0 taken.0, ((omega (arith, taken.0.1, holds), taken.0.2), taken.1)) in
    subst (IsItem depth (front_of Major.Text n ++ rest)) (ok_is (Item.text s.0.0, s.0.1) x s.2) made
body_takes inside depth left (Head.List n) rest x sound fits holds e = list_takes inside depth left n rest x sound fits holds e
body_takes inside depth left (Head.Map n) rest x sound fits holds e = map_takes inside depth left n rest x sound fits holds e
body_takes inside depth left (Head.Link link) rest x sound fits holds e = plain_takes depth (Head.Link link) (Item.link link) rest x fits refl holds e
body_takes inside depth left (Head.Bool b) rest x sound fits holds e = plain_takes depth (Head.Bool b) (Item.bool b) rest x fits refl tt e
body_takes inside depth left Head.Null rest x sound fits holds e = plain_takes depth Head.Null Item.null rest x fits refl tt e

whole_takes : (depth : ℕ) → InsideSound (inside depth) depth → Sound (item_at depth) depth
whole_takes depth sound bytes x fits e =
    let h = bind_ok (head_at bytes) (λ h. body_of (inside depth) (length bytes) h.0 h.1) x (sym (item_at_is depth bytes) ∙ e) in
    let head = head_takes bytes h.0 fits h.1 in
    let body = body_takes (inside depth) depth (length bytes) h.0.0 h.0.1 x sound head.0.rest_fits head.1 h.2 in
    subst (λ (l : List ℕ). IsItem depth l x) (sym head.0.parts) body

pub item_takes : (depth : ℕ) → Sound (item_at depth) depth
item_takes zero = whole_takes zero tt
item_takes (suc depth) =
    let one_less : suc depth - 1 ≡ depth = omega arith in
    whole_takes (suc depth) (omega arith, subst (Sound (item_at depth)) (sym one_less) (item_takes depth))
