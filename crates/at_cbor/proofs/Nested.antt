-- What is written has an encoding at each depth at which it is nested.
use Rattle.std.proofs.Common.{◌≡◌, ℕ, zero, suc, ◌-◌, ◌<◌, ◌≤◌, ◌^◌, true, List, [], ◌∷◌, length, map, get_or, Option, Some, None, refl, subst, ◌∙◌, arith}
use Rattle.std.proofs.lemmas.Bool.{and_parts}
use Rattle.at_cbor.specs.declared.value.Value.{Value}
use Rattle.at_cbor.specs.Item.{Item, items_of, fields_of, is_above, are_ascending}
use Rattle.at_cbor.specs.Encoding.{fields_nesting, IsText, FieldsFit, IsSpellable, AreSpellable, AreFieldsSpellable}
use Rattle.at_cbor.specs.View.{item_of, pair_of}
use Rattle.at_cbor.proofs.Writes.{items_counted, fields_counted}

any_default : {A : Type 0} (xs : List A) (k : ℕ) (d e : A) → k < length xs → get_or xs k d ≡ get_or xs k e
any_default [] k d e h = absurd (omega arith)
any_default (x ∷ xs) zero d e h = refl
any_default (x ∷ xs) (suc k) d e h = any_default xs k d e (omega arith)

-- each value before a place has an encoding
abbrev pub ValuesBefore : List Value → ℕ → Type 0
ValuesBefore vs n = (k : ℕ) → k < n → (d : Value) → IsSpellable (item_of (get_or vs k d))

pub value_here : (vs : List Value) (k : ℕ) (v : Value) → k < length vs → v ≡ get_or vs k v → IsSpellable (item_of v) → (d : Value) → IsSpellable (item_of (get_or vs k d))
value_here vs k v lt is h d = subst (λ (x : Value). IsSpellable (item_of x)) (is ∙ any_default vs k v d lt) h

pub values_spellable : (vs : List Value) → ValuesBefore vs (length vs) → AreSpellable (map item_of vs)
values_spellable [] each depth h = tt
values_spellable (v ∷ vs) each depth h =
    (each 0 (omega arith) v depth (omega (arith, h)), values_spellable vs (λ k lt. each (suc k) (omega (arith, lt))) depth (omega (arith, h)))

-- a field's key is a text, and its value has an encoding
abbrev pub IsFieldSpellable : List ℕ × Value → Type 0
IsFieldSpellable f = IsText f.0 × IsSpellable (item_of f.1)

abbrev pub FieldsBefore : List (List ℕ × Value) → ℕ → Type 0
FieldsBefore fs n = (k : ℕ) → k < n → (d : List ℕ × Value) → IsFieldSpellable (get_or fs k d)

pub field_here : (fs : List (List ℕ × Value)) (k : ℕ) (f : List ℕ × Value) → k < length fs → f ≡ get_or fs k f → IsFieldSpellable f → (d : List ℕ × Value) → IsFieldSpellable (get_or fs k d)
field_here fs k f lt is h d = subst IsFieldSpellable (is ∙ any_default fs k f d lt) h

fields_from : (before : Option (List ℕ)) (fs : List (List ℕ × Value)) → FieldsBefore fs (length fs) → are_ascending before (map pair_of fs) ≡ true → (depth : ℕ) → fields_nesting (fields_of (map pair_of fs)) ≤ depth
    → FieldsFit (fields_of (map pair_of fs)) before depth
fields_from before [] each ascending depth h = tt
fields_from before (f ∷ fs) each ascending depth h =
    let first = each 0 (omega arith) f in
    let order = and_parts (is_above before f.0) (are_ascending (Some f.0) (map pair_of fs)) ascending in
    (first.0, order.0, first.1 depth (omega (arith, h)), fields_from (Some f.0) fs (λ k lt. each (suc k) (omega (arith, lt))) order.1 depth (omega (arith, h)))

pub fields_spellable : (fs : List (List ℕ × Value)) → FieldsBefore fs (length fs) → are_ascending None (map pair_of fs) ≡ true → AreFieldsSpellable (map pair_of fs)
fields_spellable fs each ascending = fields_from None fs each ascending

pub list_spellable : (vs : List Value) (is : List Item) (n : ℕ) → map item_of vs ≡ is → n ≡ length is → n < 2 ^ 64 → AreSpellable (map item_of vs) → IsSpellable (Item.list (items_of is))
list_spellable vs is n seen counted below each depth h =
    let inner : AreSpellable is = subst AreSpellable seen each in
    (omega (arith, h), omega (arith, items_counted is, counted, below), inner (depth - 1) (omega (arith, h)))

pub map_spellable : (vs : List (List ℕ × Value)) (fs : List (List ℕ × Item)) (n : ℕ) → map pair_of vs ≡ fs → n ≡ length fs → n < 2 ^ 64 → AreFieldsSpellable (map pair_of vs) → IsSpellable (Item.map (fields_of fs))
map_spellable vs fs n seen counted below each depth h =
    let inner : AreFieldsSpellable fs = subst AreFieldsSpellable seen each in
    (omega (arith, h), omega (arith, fields_counted fs, counted, below), inner (depth - 1) (omega (arith, h)))
