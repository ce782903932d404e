-- Writing fields one after the other, as a loop does.
use Rattle.std.proofs.Common.{◌≡◌, ℕ, ◌+◌, ◌<◌, ◌≤◌, List, [], ◌∷◌, ◌++◌, length, map, drop, get_or, codes, cond, Option, Some, None, refl, sym, ap, ◌∙◌, append_assoc}
use Rattle.std.specs.Str.{bytes_eq}
use Rattle.std.proofs.lemmas.List.{append-nil, drop_more, drop_all, length-append}
use Rattle.at_cbor.specs.declared.major.Major.{Major}
use Rattle.at_cbor.specs.declared.value.Value.{Value}
use Rattle.at_cbor.specs.Item.{Item, Fields, no_fields, field, fields_of}
use Rattle.at_cbor.specs.Encoding.{front_of, text_encoding, fields_count, encoding, fields_encoding}
use Rattle.at_cbor.specs.View.{item_of, pair_of}
use Rattle.at_cbor.proofs.Writes.{fields_counted}
use Rattle.at_event.specs.Writing.{number_item, with_field_value, with_seq, fields_with_blocks, with_blocks}
use Rattle.at_event.proofs.Renumbered.{with_value_count}

-- the item of a key, where these blocks, if there are some, stand under `blocks`
abbrev item_with_blocks : Option (List ℕ) → List ℕ → Item → Item
item_with_blocks (Some blocks) k i = cond (bytes_eq k (codes "blocks")) (Item.bytes blocks) i
item_with_blocks None k i = i

first_with_blocks : (blocks : Option (List ℕ)) (k : List ℕ) (i : Item) (fs : Fields) → fields_with_blocks blocks (field k i fs) ≡ field k (item_with_blocks blocks k i) (fields_with_blocks blocks fs)
first_with_blocks (Some blocks) k i fs = refl
first_with_blocks None k i fs = refl

pub with_blocks_count : (blocks : Option (List ℕ)) (fs : Fields) → fields_count (fields_with_blocks blocks fs) ≡ fields_count fs
with_blocks_count (Some blocks) fs = with_value_count (codes "blocks") (Item.bytes blocks) fs
with_blocks_count None fs = refl

-- the fields under a number, with these blocks
abbrev pub renumbered_fields : ℕ → Option (List ℕ) → Fields → Fields
renumbered_fields seq blocks fs = with_field_value (codes "seq") (number_item seq) (fields_with_blocks blocks fs)

-- and their encoding
abbrev pub renumbered_encoding : ℕ → Option (List ℕ) → List (List ℕ × Value) → List ℕ
renumbered_encoding seq blocks fs = fields_encoding (renumbered_fields seq blocks (fields_of (map pair_of fs)))

-- the encoding of the fields as they are, with these blocks
abbrev pub encoding_with : Option (List ℕ) → List (List ℕ × Value) → List ℕ
encoding_with blocks fs = fields_encoding (fields_with_blocks blocks (fields_of (map pair_of fs)))

abbrev field_encoding : ℕ → Option (List ℕ) → List ℕ × Value → List ℕ
field_encoding seq blocks f = fields_encoding (renumbered_fields seq blocks (field f.0 (item_of f.1) no_fields))

encoding_of_first : (k : List ℕ) (i : Item) (fs : Fields) → fields_encoding (field k i fs) ≡ fields_encoding (field k i no_fields) ++ fields_encoding fs
encoding_of_first k i fs =
    ap (λ (l : List ℕ). text_encoding k ++ (l ++ fields_encoding fs)) (sym (append-nil (encoding i)))
    ∙ sym (append_assoc (text_encoding k) (encoding i ++ []) (fields_encoding fs))

cons_encoding : (seq : ℕ) (blocks : Option (List ℕ)) (f : List ℕ × Value) (fs : List (List ℕ × Value)) → renumbered_encoding seq blocks (f ∷ fs) ≡ field_encoding seq blocks f ++ renumbered_encoding seq blocks fs
cons_encoding seq (Some blocks) f fs =
    encoding_of_first f.0 (cond (bytes_eq f.0 (codes "seq")) (number_item seq) (item_with_blocks (Some blocks) f.0 (item_of f.1))) (renumbered_fields seq (Some blocks) (fields_of (map pair_of fs)))
cons_encoding seq None f fs =
    encoding_of_first f.0 (cond (bytes_eq f.0 (codes "seq")) (number_item seq) (item_of f.1)) (renumbered_fields seq None (fields_of (map pair_of fs)))

pub field_written : (seq : ℕ) (blocks : Option (List ℕ)) (old out new : List ℕ) (fs : List (List ℕ × Value)) (k : ℕ) (f : List ℕ × Value) → k < length fs → f ≡ get_or fs k f → new ≡ out ++ field_encoding seq blocks f → out ++ renumbered_encoding seq blocks (drop k fs) ≡ old
    → new ++ renumbered_encoding seq blocks (drop (k + 1) fs) ≡ old
field_written seq blocks old out new fs k f lt is written so_far =
    let cells : drop k fs ≡ f ∷ drop (k + 1) fs = drop_more fs k f lt ∙ ap (λ (x : List ℕ × Value). x ∷ drop (k + 1) fs) (sym is) in
    ap (λ (l : List ℕ). l ++ renumbered_encoding seq blocks (drop (k + 1) fs)) written
    ∙ append_assoc out (field_encoding seq blocks f) (renumbered_encoding seq blocks (drop (k + 1) fs))
    ∙ ap (λ (l : List ℕ). out ++ l) (sym (cons_encoding seq blocks f (drop (k + 1) fs)))
    ∙ ap (λ (l : List (List ℕ × Value)). out ++ renumbered_encoding seq blocks l) (sym cells)
    ∙ so_far

no_encoding : (seq : ℕ) (blocks : Option (List ℕ)) → renumbered_encoding seq blocks [] ≡ []
no_encoding seq (Some blocks) = refl
no_encoding seq None = refl

pub fields_written : (seq : ℕ) (blocks : Option (List ℕ)) (old out : List ℕ) (fs : List (List ℕ × Value)) (k : ℕ) → length fs ≤ k → out ++ renumbered_encoding seq blocks (drop k fs) ≡ old → out ≡ old
fields_written seq blocks old out fs k le so_far =
    sym (append-nil out) ∙ ap (λ (l : List ℕ). out ++ l) (sym (no_encoding seq blocks)) ∙ ap (λ (l : List (List ℕ × Value)). out ++ renumbered_encoding seq blocks l) (sym (drop_all k fs le)) ∙ so_far

-- the front of a map and its fields were written
pub payload_written : (seq : ℕ) (blocks : Option (List ℕ)) (old mid new : List ℕ) (vs : List (List ℕ × Value)) (fs : List (List ℕ × Item)) (n : ℕ) → mid ≡ old ++ front_of Major.Map n → n ≡ length fs → map pair_of vs ≡ fs → new ≡ mid ++ renumbered_encoding seq blocks vs
    → new ≡ old ++ encoding (with_seq seq (with_blocks blocks (Item.map (fields_of fs))))
payload_written seq blocks old mid new vs fs n first counted seen second =
    let count : n ≡ fields_count (renumbered_fields seq blocks (fields_of fs)) = counted ∙ sym (fields_counted fs) ∙ sym (with_blocks_count blocks (fields_of fs)) ∙ sym (with_value_count (codes "seq") (number_item seq) (fields_with_blocks blocks (fields_of fs))) in
    second
    ∙ ap (λ (l : List ℕ). l ++ renumbered_encoding seq blocks vs) first
    ∙ append_assoc old (front_of Major.Map n) (renumbered_encoding seq blocks vs)
    ∙ ap (λ (k : ℕ). old ++ (front_of Major.Map k ++ renumbered_encoding seq blocks vs)) count
    ∙ ap (λ (l : List (List ℕ × Item)). old ++ (front_of Major.Map (fields_count (renumbered_fields seq blocks (fields_of fs))) ++ fields_encoding (renumbered_fields seq blocks (fields_of l)))) seen

-- ---- lengths

cons_encoding_with : (blocks : Option (List ℕ)) (f : List ℕ × Value) (fs : List (List ℕ × Value)) → encoding_with blocks (f ∷ fs) ≡ fields_encoding (fields_with_blocks blocks (field f.0 (item_of f.1) no_fields)) ++ encoding_with blocks fs
cons_encoding_with (Some blocks) f fs = encoding_of_first f.0 (item_with_blocks (Some blocks) f.0 (item_of f.1)) (fields_with_blocks (Some blocks) (fields_of (map pair_of fs)))
cons_encoding_with None f fs = encoding_of_first f.0 (item_of f.1) (fields_of (map pair_of fs))

-- the length of one field, and of those behind it
pub next_length : (blocks : Option (List ℕ)) (fs : List (List ℕ × Value)) (k : ℕ) (f : List ℕ × Value) → k < length fs → f ≡ get_or fs k f
    → length (encoding_with blocks (drop k fs)) ≡ length (fields_encoding (fields_with_blocks blocks (field f.0 (item_of f.1) no_fields))) + length (encoding_with blocks (drop (k + 1) fs))
next_length blocks fs k f lt is =
    let cells : drop k fs ≡ f ∷ drop (k + 1) fs = drop_more fs k f lt ∙ ap (λ (x : List ℕ × Value). x ∷ drop (k + 1) fs) (sym is) in
    ap (λ (l : List (List ℕ × Value)). length (encoding_with blocks l)) cells
    ∙ ap length (cons_encoding_with blocks f (drop (k + 1) fs))
    ∙ length-append (fields_encoding (fields_with_blocks blocks (field f.0 (item_of f.1) no_fields))) (encoding_with blocks (drop (k + 1) fs))

no_length : (blocks : Option (List ℕ)) → length (encoding_with blocks []) ≡ 0
no_length (Some blocks) = refl
no_length None = refl

pub none_left : (blocks : Option (List ℕ)) (fs : List (List ℕ × Value)) (k : ℕ) → length fs ≤ k → length (encoding_with blocks (drop k fs)) ≡ 0
none_left blocks fs k le = ap (λ (l : List (List ℕ × Value)). length (encoding_with blocks l)) (drop_all k fs le) ∙ no_length blocks

-- the length of a payload, by that of its front and of its fields
pub payload_length : (blocks : Option (List ℕ)) (vs : List (List ℕ × Value)) (fs : List (List ℕ × Item)) (n : ℕ) → map pair_of vs ≡ fs → n ≡ length fs
    → length (encoding (with_blocks blocks (Item.map (fields_of fs)))) ≡ length (front_of Major.Unsigned n) + length (encoding_with blocks vs)
payload_length blocks vs fs n seen counted =
    let count : fields_count (fields_with_blocks blocks (fields_of fs)) ≡ n = with_blocks_count blocks (fields_of fs) ∙ fields_counted fs ∙ sym counted in
    length-append (front_of Major.Map (fields_count (fields_with_blocks blocks (fields_of fs)))) (fields_encoding (fields_with_blocks blocks (fields_of fs)))
    ∙ ap (λ (k : ℕ). length (front_of Major.Unsigned k) + length (fields_encoding (fields_with_blocks blocks (fields_of fs)))) count
    ∙ ap (λ (l : List (List ℕ × Item)). length (front_of Major.Unsigned n) + length (fields_encoding (fields_with_blocks blocks (fields_of l)))) (sym seen)
