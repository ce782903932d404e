-- The bytes of a node tell the node.
use Rattle.std.proofs.Common.{◌≡◌, ℕ, zero, suc, ◌+◌, ◌-◌, ◌*◌, ◌<◌, ◌≤◌, eqb, cond, true, false, List, [], ◌∷◌, ◌++◌, length, take, drop, refl, sym, ap, ◌∙◌, subst, Option, Some, None, lit<, arith, append_assoc, take-append-drop, length-drop, one-add, pos}
use Rattle.std.proofs.lemmas.Bool.Decides.{nat_tests}
use Rattle.std.specs.Prelude.{slice_index}
use Rattle.std.proofs.lemmas.Str.{IsUtf8-from_ascii, is_utf8-from_IsUtf8}
use Rattle.at_cid.specs.Link.{IsLink}
use Rattle.at_cid.specs.Order.{key_cmp}
use Rattle.at_cbor.specs.declared.major.Major.{Major}
use Rattle.at_cbor.specs.Majors.{major_number}
use Rattle.at_cbor.specs.Item.{Item, items_of, fields_of}
use Rattle.at_cbor.specs.Encoding.{info_of, tail_of, front_of, encoding, items_encoding, items_count, IsText, Fits, FieldsFit}
use Rattle.at_cbor.proofs.Decoded.{one_encoding}
use Rattle.at_cbor.proofs.Steps.{IsBytes-drop}
use Rattle.mst_list.specs.Lists.{IsKey}
use Rattle.mst_node.specs.declared.entry.Entry.{Entry}
use Rattle.at_cbor.specs.Taking.{link_item}
use Rattle.mst_node.specs.NodeBytes.{shared, entry_item, entry_items, node_bytes}
use Rattle.mst_node.specs.Nodes.{IsChildLink, AreFormedEntries}
use Rattle.mst_node.specs.Reading.{head_size}
use Rattle.mst_node.specs.Laws.{OneNodeLaw}

pub append_same : (a b r s : List ℕ) → length a ≡ length b → a ++ r ≡ b ++ s → (a ≡ b) × (r ≡ s)
append_same [] [] r s len e = (refl, e)
append_same [] (y ∷ b) r s len e = absurd (omega arith)
append_same (x ∷ a) [] r s len e = absurd (omega arith)
append_same (x ∷ a) (y ∷ b) r s len e =
    let front : x ≡ y = cc in let rest : a ++ r ≡ b ++ s = cc in
    let p = append_same a b r s (omega arith) rest in (ap (λ l. x ∷ l) p.0 ∙ ap (λ z. z ∷ b) front, p.1)

-- an item is told by its encoding, whatever follows
pub item_same : (depth : ℕ) (i j : Item) (r s : List ℕ) → Fits i depth → Fits j depth → encoding i ++ r ≡ encoding j ++ s → (i ≡ j) × (r ≡ s)
item_same depth i j r s fi fj e = one_encoding i j depth r s fi fj e

below : (m n : ℕ) → n < m → (i : ℕ) → slice_index (n ∷ []) i < m
below m n h zero = h
below m n h (suc i) = omega arith

-- a letter of ASCII is a text
pub letter_text : (n : ℕ) → n < 128 → IsText (n ∷ [])
letter_text n h = ((lit< tt, below 256 n (omega arith)), is_utf8-from_IsUtf8 (n ∷ []) (IsUtf8-from_ascii (n ∷ []) (below 128 n h)))

pub child_fits : (depth : ℕ) (o : Option (List ℕ)) → IsChildLink o → Fits (link_item o) depth
child_fits depth None form = tt
child_fits depth (Some c) form = (form.link, form.bytes)

pub shared_at_most : (a b : List ℕ) → shared a b ≤ length b
shared_at_most [] b = omega arith
shared_at_most (x ∷ a) [] = omega arith
shared_at_most (x ∷ a) (y ∷ b) =
    elim (eqb x y) as (λ t. cond t (1 + shared a b) 0 ≤ suc (length b)) [ true ↦ let low = shared_at_most a b in omega arith | false ↦ omega arith ]

pub entry_fits : (depth : ℕ) (last : List ℕ) (e : Entry) → IsKey e.key → IsLink e.value → IsChildLink e.right → Fits (entry_item last e) (suc depth)
unfolding key_cmp
entry_fits depth last e key value right =
    let p = shared last e.key in
    let low = shared_at_most last e.key in let most = key.most in let len = length-drop p e.key in
    let k = letter_text 0x6b (lit< tt) in
    let n = letter_text 0x70 (lit< tt) in
    let t = letter_text 0x74 (lit< tt) in
    let v = letter_text 0x76 (lit< tt) in
    let last_field : FieldsFit (fields_of ((0x76 ∷ [], Item.link e.value) ∷ [])) (Some (0x74 ∷ [])) depth = (v, refl, (value.link, value.bytes), tt) in
    let right_field : FieldsFit (fields_of ((0x74 ∷ [], link_item e.right) ∷ (0x76 ∷ [], Item.link e.value) ∷ [])) (Some (0x70 ∷ [])) depth = (t, refl, child_fits depth e.right right, last_field) in
    let count_field : FieldsFit (fields_of ((0x70 ∷ [], Item.int (pos p)) ∷ (0x74 ∷ [], link_item e.right) ∷ (0x76 ∷ [], Item.link e.value) ∷ [])) (Some (0x6b ∷ [])) depth = (n, refl, omega arith, right_field) in
    let key_field : FieldsFit (fields_of ((0x6b ∷ [], Item.bytes (drop p e.key)) ∷ (0x70 ∷ [], Item.int (pos p)) ∷ (0x74 ∷ [], link_item e.right) ∷ (0x76 ∷ [], Item.link e.value) ∷ [])) None depth = (k, refl, (omega arith, IsBytes-drop p e.key key.bytes), count_field) in
    let one_less : suc depth - 1 ≡ depth = omega arith in
    (omega arith, lit< tt, rw one_less key_field)

pub take_shared : (a b : List ℕ) → take (shared a b) a ≡ take (shared a b) b
take_shared [] [] = refl
take_shared [] (y ∷ b) = refl
take_shared (x ∷ a) [] = refl
take_shared (x ∷ a) (y ∷ b) =
    elim (eqb x y) as (λ t. eqb x y ≡ t → take (cond t (1 + shared a b) 0) (x ∷ a) ≡ take (cond t (1 + shared a b) 0) (y ∷ b)) [
      | true ↦ λ e. let same : x ≡ y = grind (arith, nat_tests) in let rest = take_shared a b in rw one-add (ap (λ z. z ∷ take (shared a b) a) same ∙ ap (λ l. y ∷ l) rest)
      | false ↦ λ e. refl
    ] refl

-- a key from what is written of it
pub key_again : (last a b : List ℕ) → shared last a ≡ shared last b → drop (shared last a) a ≡ drop (shared last b) b → a ≡ b
key_again last a b p d =
    sym (take-append-drop (shared last a) a)
    ∙ ap (λ z. z ++ drop (shared last a) a) (sym (take_shared last a) ∙ ap (λ n. take n last) p ∙ take_shared last b)
    ∙ ap (λ z. take (shared last b) b ++ z) d
    ∙ take-append-drop (shared last b) b

abbrev pub entry_of : List ℕ → List ℕ → Option (List ℕ) → Entry
entry_of k v r = record { key = k; value = v; right = r }

pub entry_again : (a b : Entry) → a.key ≡ b.key → a.value ≡ b.value → a.right ≡ b.right → a ≡ b
entry_again a b p q r =
    ap (λ k. entry_of k a.value a.right) p ∙ ap (λ v. entry_of b.key v a.right) q ∙ ap (λ x. entry_of b.key b.value x) r

pub child_same : (a b : Option (List ℕ)) → link_item a ≡ link_item b → a ≡ b
child_same None None e = refl
child_same None (Some c) e = absurd cc
child_same (Some c) None e = absurd cc
child_same (Some c) (Some d) e = let same : c ≡ d = cc in ap Some same

-- an entry is told by its item
pub entry_told : (last : List ℕ) (a b : Entry) → entry_item last a ≡ entry_item last b → a ≡ b
entry_told last a b e =
    let k : drop (shared last a.key) a.key ≡ drop (shared last b.key) b.key = cc in
    let p : shared last a.key ≡ shared last b.key = cc in
    let t : link_item a.right ≡ link_item b.right = cc in
    let v : a.value ≡ b.value = cc in
    entry_again a b (key_again last a.key b.key p k) v (child_same a.right b.right t)

-- an entry begins with the head of a map of four
pub entry_head : (last : List ℕ) (e : Entry) (r : List ℕ) → slice_index (encoding (entry_item last e) ++ r) 0 ≡ 0xa4
unfolding info_of tail_of
entry_head last e r = refl

pub entries_same : (last : List ℕ) (es fs : List Entry) (r s : List ℕ) → AreFormedEntries es → AreFormedEntries fs
    → items_encoding (items_of (entry_items last es)) ++ (0x61 ∷ r) ≡ items_encoding (items_of (entry_items last fs)) ++ (0x61 ∷ s) → (es ≡ fs) × (r ≡ s)
entries_same last [] [] r s fa fb e = (refl, cc)
entries_same last [] (b ∷ fs) r s fa fb e =
    let rest = items_encoding (items_of (entry_items b.key fs)) in
    let whole : 0x61 ∷ r ≡ encoding (entry_item last b) ++ (rest ++ (0x61 ∷ s)) = e ∙ append_assoc (encoding (entry_item last b)) rest (0x61 ∷ s) in
    let bad = ap (λ (l : List ℕ). slice_index l 0) whole ∙ entry_head last b (rest ++ (0x61 ∷ s)) in absurd (omega (arith, bad))
entries_same last (a ∷ es) [] r s fa fb e =
    let rest = items_encoding (items_of (entry_items a.key es)) in
    let whole : 0x61 ∷ s ≡ encoding (entry_item last a) ++ (rest ++ (0x61 ∷ r)) = sym e ∙ append_assoc (encoding (entry_item last a)) rest (0x61 ∷ r) in
    let bad = ap (λ (l : List ℕ). slice_index l 0) whole ∙ entry_head last a (rest ++ (0x61 ∷ r)) in absurd (omega (arith, bad))
entries_same last (a ∷ es) (b ∷ fs) r s fa fb e =
    let ra = items_encoding (items_of (entry_items a.key es)) in let rb = items_encoding (items_of (entry_items b.key fs)) in
    let whole : encoding (entry_item last a) ++ (ra ++ (0x61 ∷ r)) ≡ encoding (entry_item last b) ++ (rb ++ (0x61 ∷ s)) =
    sym (append_assoc (encoding (entry_item last a)) ra (0x61 ∷ r)) ∙ e ∙ append_assoc (encoding (entry_item last b)) rb (0x61 ∷ s) in
    let p = item_same 1 (entry_item last a) (entry_item last b) _ _ (entry_fits 0 last a fa.0.0 fa.0.1 fa.0.2) (entry_fits 0 last b fb.0.0 fb.0.1 fb.0.2) whole in
    let same = entry_told last a b p.0 in
    let R : Entry → Type 0 = λ x. ra ++ (0x61 ∷ r) ≡ items_encoding (items_of (entry_items x.key fs)) ++ (0x61 ∷ s) in
    let q = entries_same a.key es fs r s fa.1 fb.1 (subst R (sym same) p.1) in
    (ap (λ x. x ∷ es) same ∙ ap (λ xs. b ∷ xs) q.0, q.1)

pub size_tail : (n : ℕ) → length (tail_of n) ≡ head_size (info_of n)
unfolding tail_of info_of
size_tail n = grind (arith, nat_tests)

-- two heads of one kind end at one place
pub head_rest : (major : Major) (n m : ℕ) (r s : List ℕ) → front_of major n ++ r ≡ front_of major m ++ s → r ≡ s
head_rest major n m r s e =
    let front : 32 * major_number major + info_of n ≡ 32 * major_number major + info_of m = cc in
    let low : info_of n ≡ info_of m = omega arith in
    let rest : tail_of n ++ r ≡ tail_of m ++ s = cc in
    (append_same (tail_of n) (tail_of m) r s (size_tail n ∙ ap head_size low ∙ sym (size_tail m)) rest).1

-- the bytes of a node, in parts
abbrev pub end_bytes : Option (List ℕ) → List ℕ
end_bytes left = 0x6c ∷ (encoding (link_item left) ++ [])

pub node_parts : (left : Option (List ℕ)) (es : List Entry) → node_bytes left es
    ≡ 0xa2 ∷ 0x61 ∷ 0x65 ∷ (front_of Major.List (items_count (items_of (entry_items [] es))) ++ (items_encoding (items_of (entry_items [] es)) ++ (0x61 ∷ end_bytes left)))
unfolding node_bytes info_of tail_of
node_parts left es = ap (λ (l : List ℕ). 0xa2 ∷ 0x61 ∷ 0x65 ∷ l) (append_assoc (front_of Major.List (items_count (items_of (entry_items [] es)))) (items_encoding (items_of (entry_items [] es))) (0x61 ∷ end_bytes left))

-- two nodes of one block are one
pub node_same : (l m : Option (List ℕ)) (es fs : List Entry) → IsChildLink l → IsChildLink m → AreFormedEntries es → AreFormedEntries fs → node_bytes l es ≡ node_bytes m fs → (l ≡ m) × (es ≡ fs)
node_same l m es fs fl fm fa fb e =
    let whole = sym (node_parts l es) ∙ e ∙ node_parts m fs in
    let one : front_of Major.List (items_count (items_of (entry_items [] es))) ++ (items_encoding (items_of (entry_items [] es)) ++ (0x61 ∷ end_bytes l))
    ≡ front_of Major.List (items_count (items_of (entry_items [] fs))) ++ (items_encoding (items_of (entry_items [] fs)) ++ (0x61 ∷ end_bytes m)) = cc in
    let q = entries_same [] es fs (end_bytes l) (end_bytes m) fa fb (head_rest Major.List _ _ _ _ one) in
    let two : encoding (link_item l) ++ [] ≡ encoding (link_item m) ++ [] = let rest = q.1 in cc in
    (child_same l m (item_same 0 (link_item l) (link_item m) [] [] (child_fits 0 l fl) (child_fits 0 m fm) two).0, q.0)

pub one_node : OneNodeLaw
one_node block n m a b =
    let same = node_same n.0 m.0 n.1 m.1 a.is_node.left_link b.is_node.left_link a.is_node.formed b.is_node.formed (sym a.encoded ∙ b.encoded) in
    ap (λ (left : Option (List ℕ)). (left, n.1)) same.0 ∙ ap (λ (es : List Entry). (m.0, es)) same.1

pub shared_first : (a b : List ℕ) → shared a b ≤ length a
shared_first [] b = omega arith
shared_first (x ∷ a) [] = omega arith
shared_first (x ∷ a) (y ∷ b) =
    elim (eqb x y) as (λ t. cond t (1 + shared a b) 0 ≤ suc (length a)) [ true ↦ let low = shared_first a b in omega arith | false ↦ omega arith ]

pub key_back : (last k : List ℕ) → take (shared last k) last ++ drop (shared last k) k ≡ k
key_back last k = ap (λ z. z ++ drop (shared last k) k) (take_shared last k) ∙ take-append-drop (shared last k) k
