-- The items of a list and the fields of a map, and the lists that they came from.
use Rattle.std.proofs.Common.{◌≡◌, ℕ, zero, suc, ◌+◌, List, [], ◌∷◌, drop, Some, refl, sym, ap, ◌∙◌, arith}
use Rattle.std.specs.Prelude.{slice_get}
use Rattle.at_cbor.specs.Item.{Item, Items, no_items, item, Fields, no_fields, field, items_of, fields_of, items_list, fields_list}

pub items_back : (is : Items) → items_of (items_list is) ≡ is
items_back no_items = refl
items_back (item i is) = ap (item i) (items_back is)

pub fields_back : (fs : Fields) → fields_of (fields_list fs) ≡ fs
fields_back no_fields = refl
fields_back (field k i fs) = ap (field k i) (fields_back fs)

pub items_same : (is : List Item) → items_list (items_of is) ≡ is
items_same [] = refl
items_same (i ∷ is) = ap (λ (js : List Item). i ∷ js) (items_same is)

pub fields_same : (fs : List (List ℕ × Item)) → fields_list (fields_of fs) ≡ fs
fields_same [] = refl
fields_same (f ∷ fs) = ap (λ (gs : List (List ℕ × Item)). f ∷ gs) (fields_same fs)

-- What is found at a place is the first of what is left from there on.
pub next_of : {A : Type 0} (xs : List A) (i : ℕ) (x : A) → slice_get xs i ≡ Some x → drop i xs ≡ x ∷ drop (i + 1) xs
next_of [] i x e = absurd cc
next_of (y ∷ xs) zero x e = let same : y ≡ x = cc in ap (λ z. z ∷ xs) same
next_of (y ∷ xs) (suc i) x e =
    let more : suc i + 1 ≡ suc (i + 1) = omega arith in
    next_of xs i x e ∙ ap (λ (n : ℕ). x ∷ drop n (y ∷ xs)) (sym more)
