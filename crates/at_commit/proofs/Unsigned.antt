-- The signed fields, one after another.
use Rattle.std.proofs.Common.{◌≡◌, ℕ, suc, ◌+◌, ◌<◌, ◌≤◌, Bool, true, false, cond, List, [], ◌∷◌, ◌++◌, length, map, drop, get_or, refl, sym, ap, ◌∙◌, arith, append_assoc}
use Rattle.std.proofs.lemmas.List.{drop_more, drop_all, append-nil}
use Rattle.std.specs.List.{filter}
use Rattle.std.specs.Int.{from_bool}
use Rattle.at_cbor.specs.declared.major.Major.{Major}
use Rattle.at_cbor.specs.declared.value.Value.{Value}
use Rattle.at_cbor.specs.Item.{Item, fields_of, fields_list}
use Rattle.at_cbor.specs.Encoding.{front_of, text_encoding, encoding, fields_count, fields_encoding}
use Rattle.at_cbor.specs.View.{pair_of}
use Rattle.at_cbor.proofs.Parts.{fields_same}
use Rattle.at_cbor.proofs.Writes.{fields_counted}
use Rattle.at_commit.specs.Signed.{is_signed, signed_encoding, unsigned_of}

-- the signed ones of some fields
abbrev pub signed : List (List ℕ × Value) → List (List ℕ × Item)
signed fields = filter is_signed (map pair_of fields)

-- and what they are encoded by
abbrev pub signed_fields : List (List ℕ × Value) → List ℕ
signed_fields fields = fields_encoding (fields_of (signed fields))

encoded_if : (test : Bool) (f : List ℕ × Item) (fs : List (List ℕ × Item))
    → fields_encoding (fields_of (cond test (f ∷ fs) fs)) ≡ cond test (text_encoding f.0 ++ encoding f.1) [] ++ fields_encoding (fields_of fs)
encoded_if true f fs = sym (append_assoc (text_encoding f.0) (encoding f.1) (fields_encoding (fields_of fs)))
encoded_if false f fs = refl

next : (fields : List (List ℕ × Value)) (i : ℕ) (f : List ℕ × Value) → i < length fields → f ≡ get_or fields i f → drop i fields ≡ f ∷ drop (i + 1) fields
next fields i f h e = drop_more fields i f h ∙ ap (λ (g : List ℕ × Value). g ∷ drop (i + 1) fields) (sym e)

-- a field more is written
pub field_more : (old out new : List ℕ) (fields : List (List ℕ × Value)) (i : ℕ) (f : List ℕ × Value) → i < length fields → f ≡ get_or fields i f
    → out ++ signed_fields (drop i fields) ≡ old ++ signed_fields fields → new ≡ out ++ signed_encoding (pair_of f)
    → new ++ signed_fields (drop (i + 1) fields) ≡ old ++ signed_fields fields
field_more old out new fields i f h e before written =
    let rest = signed_fields (drop (i + 1) fields) in
    ap (λ (l : List ℕ). l ++ rest) written ∙ append_assoc out (signed_encoding (pair_of f)) rest
    ∙ ap (λ (l : List ℕ). out ++ l) (sym (encoded_if (is_signed (pair_of f)) (pair_of f) (signed (drop (i + 1) fields))))
    ∙ ap (λ (fs : List (List ℕ × Value)). out ++ signed_fields fs) (sym (next fields i f h e)) ∙ before

pub all_written : (old out : List ℕ) (fields : List (List ℕ × Value)) (i : ℕ) → length fields ≤ i → out ++ signed_fields (drop i fields) ≡ old → out ≡ old
all_written old out fields i h before = sym (append-nil out) ∙ ap (λ (fs : List (List ℕ × Value)). out ++ signed_fields fs) (sym (drop_all i fields h)) ∙ before

-- a field more is counted
counted_if : (test : Bool) (f : List ℕ × Item) (fs : List (List ℕ × Item)) → length (cond test (f ∷ fs) fs) ≡ cond test 1 0 + length fs
counted_if true f fs = omega arith
counted_if false f fs = omega arith

pub count_more : (fields : List (List ℕ × Value)) (i : ℕ) (f : List ℕ × Value) → i < length fields → f ≡ get_or fields i f
    → length (signed (drop i fields)) ≡ cond (is_signed (pair_of f)) 1 0 + length (signed (drop (i + 1) fields))
count_more fields i f h e = ap (λ (fs : List (List ℕ × Value)). length (signed fs)) (next fields i f h e) ∙ counted_if (is_signed (pair_of f)) (pair_of f) (signed (drop (i + 1) fields))

one_if : (test : Bool) → from_bool test ≡ cond test 1 0
one_if true = refl
one_if false = refl

-- what was counted, with a field more
pub counted_so_far : (fields : List (List ℕ × Value)) (i count more : ℕ) (test : Bool) (f : List ℕ × Value) → i < length fields → f ≡ get_or fields i f → test ≡ is_signed (pair_of f) → more ≡ from_bool test
    → count + length (signed (drop i fields)) ≡ length (signed fields) → (count + more) + length (signed (drop (i + 1) fields)) ≡ length (signed fields)
counted_so_far fields i count more test f h e known added before =
    let step = count_more fields i f h e in
    let one : more ≡ cond (is_signed (pair_of f)) 1 0 = added ∙ one_if test ∙ ap (λ (b : Bool). cond b 1 0) known in
    omega arith

pub few_signed : (fields : List (List ℕ × Value)) → length (signed fields) ≤ length fields
few_signed [] = omega arith
few_signed (f ∷ fields) = few_if (is_signed (pair_of f)) (pair_of f) (signed fields) (length fields) (few_signed fields)
  where
    few_if : (test : Bool) (f : List ℕ × Item) (fs : List (List ℕ × Item)) (n : ℕ) → length fs ≤ n → length (cond test (f ∷ fs) fs) ≤ suc n
    few_if true f fs n h = omega arith
    few_if false f fs n h = omega arith

-- the front of the map without `sig`, and its fields
pub unsigned_encoded : (front whole : List ℕ) (count : ℕ) (written : List (List ℕ × Value)) (fields : List (List ℕ × Item)) → map pair_of written ≡ fields → count ≡ length (signed written)
    → front ≡ [] ++ front_of Major.Map count → whole ≡ front ++ signed_fields written → whole ≡ encoding (Item.map (unsigned_of (fields_of fields)))
unsigned_encoded front whole count written fields same counted put all =
    let kept = filter is_signed fields in
    let named : signed written ≡ kept = ap (filter is_signed) same in
    let listed : fields_list (fields_of fields) ≡ fields = fields_same fields in
    let number : count ≡ fields_count (fields_of kept) = counted ∙ ap (λ (fs : List (List ℕ × Item)). length fs) named ∙ sym (fields_counted kept) in
    all ∙ ap (λ (l : List ℕ). l ++ signed_fields written) put
    ∙ ap (λ (n : ℕ). front_of Major.Map n ++ signed_fields written) number
    ∙ ap (λ (fs : List (List ℕ × Item)). front_of Major.Map (fields_count (fields_of kept)) ++ fields_encoding (fields_of fs)) named
    ∙ ap (λ (fs : List (List ℕ × Item)). encoding (Item.map (fields_of (filter is_signed fs)))) (sym listed)
