-- A value put in the place of a key's.
use Rattle.std.proofs.Common.{◌≡◌, ℕ, zero, suc, ◌+◌, Bool, true, false, cond, ◌&&◌, List, [], ◌∷◌, map, set, get_or, Option, Some, None, refl, sym, ap, subst, arith}
use Rattle.std.specs.Str.{bytes_eq}
use Rattle.at_cbor.specs.declared.value.Value.{Value}
use Rattle.at_cbor.specs.Item.{Item, Fields, field, fields_of, is_above, are_ascending}
use Rattle.at_cbor.specs.Kinds.{place_from, value_of, value_put}
use Rattle.at_cbor.specs.View.{item_of, pair_of}

-- the field of this place is the first of the key
abbrev pub IsFirst : List ℕ → ℕ → List (List ℕ × Value) → Type 0
IsFirst name n [] = ⊥
IsFirst name zero (f ∷ fs) = bytes_eq f.0 name ≡ true
IsFirst name (suc n) (f ∷ fs) = (bytes_eq f.0 name ≡ false) × IsFirst name n fs

-- the value that stands there
pub value_there : (name : List ℕ) (n : ℕ) (fs : List (List ℕ × Value)) (d : List ℕ × Value) → IsFirst name n fs → value_of (fields_of (map pair_of fs)) name ≡ Some (item_of (get_or fs n d).1)
value_there name n [] d first = absurd first
value_there name zero (f ∷ fs) d first = rw first refl
value_there name (suc n) (f ∷ fs) d first = rw first.0 (value_there name n fs d first.1)

-- another in its place
pub put_there : (name : List ℕ) (v : Value) (n : ℕ) (fs : List (List ℕ × Value)) (d : List ℕ × Value) → IsFirst name n fs
    → fields_of (map pair_of (set fs n ((get_or fs n d).0, v))) ≡ value_put name (item_of v) (fields_of (map pair_of fs))
put_there name v n [] d first = absurd first
put_there name v zero (f ∷ fs) d first = rw first refl
put_there name v (suc n) (f ∷ fs) d first = rw first.0 (ap (field f.0 (item_of f.1)) (put_there name v n fs d first.1))

-- the keys stay
pub keys_stay : (before : Option (List ℕ)) (v : Value) (n : ℕ) (fs : List (List ℕ × Value)) (d : List ℕ × Value) → are_ascending before (map pair_of (set fs n ((get_or fs n d).0, v))) ≡ are_ascending before (map pair_of fs)
keys_stay before v n [] d = refl
keys_stay before v zero (f ∷ fs) d = refl
keys_stay before v (suc n) (f ∷ fs) d = ap (λ (b : Bool). is_above before f.0 && b) (keys_stay (Some f.0) v n fs d)

-- ---- the place that is found

some_same : (n k : ℕ) → Some n ≡ Some k → n ≡ k
some_same n k e = cc

first_or : (b : Bool) (before k : ℕ) (f : List ℕ × Value) (fs : List (List ℕ × Value)) (name : List ℕ) (others : Option ℕ) → bytes_eq f.0 name ≡ b → cond b (Some before) others ≡ Some k
    → (others ≡ Some k → (n : ℕ) × (k ≡ suc before + n) × IsFirst name n fs) → (n : ℕ) × (k ≡ before + n) × IsFirst name n (f ∷ fs)
first_or true before k f fs name others is e more = (zero, omega (arith, some_same before k e), is)
first_or false before k f fs name others is e more = let later = more e in (suc later.0, omega (arith, later.1), (is, later.2))

first_from : (before k : ℕ) (fs : List (List ℕ × Value)) (name : List ℕ) → place_from before (fields_of (map pair_of fs)) name ≡ Some k → (n : ℕ) × (k ≡ before + n) × IsFirst name n fs
first_from before k [] name e = absurd cc
first_from before k (f ∷ fs) name e = first_or (bytes_eq f.0 name) before k f fs name (place_from (suc before) (fields_of (map pair_of fs)) name) refl e (first_from (suc before) k fs name)

pub is_first : (name : List ℕ) (k : ℕ) (fs : List (List ℕ × Value)) → Some k ≡ place_from 0 (fields_of (map pair_of fs)) name → IsFirst name k fs
is_first name k fs e = let first = first_from 0 k fs name (sym e) in let place : first.0 ≡ k = omega (arith, first.1) in subst (λ (n : ℕ). IsFirst name n fs) place first.2

-- ---- no such key

none_or : (b : Bool) (before : ℕ) (others : Option ℕ) (i : Item) (value : Option Item) (fs put : Fields) → cond b (Some before) others ≡ None → (others ≡ None → (value ≡ None) × (put ≡ fs)) → (b ≡ false) × (value ≡ None) × (put ≡ fs)
none_or true before others i value fs put e more = absurd cc
none_or false before others i value fs put e more = let later = more e in (refl, later.0, later.1)

none_from : (before : ℕ) (name : List ℕ) (v : Value) (fs : List (List ℕ × Value)) → place_from before (fields_of (map pair_of fs)) name ≡ None → (value_of (fields_of (map pair_of fs)) name ≡ None) × (value_put name (item_of v) (fields_of (map pair_of fs)) ≡ fields_of (map pair_of fs))
none_from before name v [] e = (refl, refl)
none_from before name v (f ∷ fs) e =
    let later = none_or (bytes_eq f.0 name) before (place_from (suc before) (fields_of (map pair_of fs)) name) (item_of f.1) _ _ _ e (none_from (suc before) name v fs) in
    (rw later.0 later.1, rw later.0 (ap (field f.0 (item_of f.1)) later.2))

pub not_there : (name : List ℕ) (v : Value) (fs : List (List ℕ × Value)) → None ≡ place_from 0 (fields_of (map pair_of fs)) name → (value_of (fields_of (map pair_of fs)) name ≡ None) × (value_put name (item_of v) (fields_of (map pair_of fs)) ≡ fields_of (map pair_of fs))
not_there name v fs e = none_from 0 name v fs (sym e)
