-- The lengths of encodings.
use Rattle.std.proofs.Common.{◌≡◌, ℕ, ◌+◌, ◌≤◌, List, length, map, drop, sym, ap, ◌∙◌}
use Rattle.std.proofs.lemmas.List.{length-append, drop_all}
use Rattle.at_cbor.specs.declared.major.Major.{Major}
use Rattle.at_cbor.specs.declared.value.Value.{Value}
use Rattle.at_cbor.specs.Item.{Item, items_of, fields_of}
use Rattle.at_cbor.specs.Encoding.{front_of, items_count, fields_count, encoding, items_encoding, fields_encoding}
use Rattle.at_cbor.specs.View.{item_of, pair_of}
use Rattle.at_cbor.proofs.Writes.{values_encoding, pairs_encoding, items_counted, fields_counted}

pub list_length : (vs : List Value) (is : List Item) (n : ℕ) → map item_of vs ≡ is → n ≡ length is → length (encoding (Item.list (items_of is))) ≡ length (front_of Major.Unsigned n) + length (values_encoding vs)
list_length vs is n seen counted =
    let count : items_count (items_of is) ≡ n = items_counted is ∙ sym counted in
    length-append (front_of Major.List (items_count (items_of is))) (items_encoding (items_of is))
    ∙ ap (λ (k : ℕ). length (front_of Major.Unsigned k) + length (items_encoding (items_of is))) count
    ∙ ap (λ (l : List Item). length (front_of Major.Unsigned n) + length (items_encoding (items_of l))) (sym seen)

pub map_length : (vs : List (List ℕ × Value)) (fs : List (List ℕ × Item)) (n : ℕ) → map pair_of vs ≡ fs → n ≡ length fs → length (encoding (Item.map (fields_of fs))) ≡ length (front_of Major.Unsigned n) + length (pairs_encoding vs)
map_length vs fs n seen counted =
    let count : fields_count (fields_of fs) ≡ n = fields_counted fs ∙ sym counted in
    length-append (front_of Major.Map (fields_count (fields_of fs))) (fields_encoding (fields_of fs))
    ∙ ap (λ (k : ℕ). length (front_of Major.Unsigned k) + length (fields_encoding (fields_of fs))) count
    ∙ ap (λ (l : List (List ℕ × Item)). length (front_of Major.Unsigned n) + length (fields_encoding (fields_of l))) (sym seen)

pub no_values_left : (vs : List Value) (k : ℕ) → length vs ≤ k → length (values_encoding (drop k vs)) ≡ 0
no_values_left vs k le = ap (λ (l : List Value). length (values_encoding l)) (drop_all k vs le)

pub no_fields_left : (fs : List (List ℕ × Value)) (k : ℕ) → length fs ≤ k → length (pairs_encoding (drop k fs)) ≡ 0
no_fields_left fs k le = ap (λ (l : List (List ℕ × Value)). length (pairs_encoding l)) (drop_all k fs le)
