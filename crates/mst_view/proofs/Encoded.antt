-- The block of a node is made of the links of its parts.
use Rattle.std.proofs.Common.{◌≡◌, ℕ, zero, suc, ◌-◌, ◌<◌, ◌≤◌, eqb, true, List, [], ◌∷◌, ◌++◌, length, refl, sym, ap, ◌∙◌, subst, Some, None, arith}
use Rattle.at_cid.specs.Link.{cid}
use Rattle.mst_list.specs.declared.item.Item.{Item}
use Rattle.mst_list.specs.declared.item.Item.TheVariants.{Key, Hole}
use Rattle.mst_list.specs.Height.{height}
use Rattle.mst_node.specs.NodeBytes.{node_bytes}
use Rattle.mst_node.specs.Trees.{entries_at, part_link, encode_layer, KeysUnder, HolesUnder}
use Rattle.mst_node.proofs.Layers.{eqb_same}
use Rattle.mst_node.proofs.Encoding.{entry_of}
use Rattle.mst_node.proofs.Joins.{StartsAt, first_joined, holes_joined}
use Rattle.mst_view.specs.Value.{Layered}
use Rattle.mst_view.specs.Layered.{IsAtLayer, LiesBelow, AllAt, below_items, rest_items, layered, below_link, entries_of, IsKept}
use Rattle.mst_view.specs.declared.branch.Below.{Below}
use Rattle.mst_view.specs.declared.branch.Below.TheVariants.{Empty, Hole as Stub, Tree}
use Rattle.mst_view.specs.declared.branch.Part.{Part}
use Rattle.mst_node.proofs.Gives.{tree_link, entries_joined, keys_joined, keys_up}

pub below_keys : (h : ℕ) (b : Below) → LiesBelow h b → KeysUnder h (below_items h b)
below_keys h Empty l = tt
below_keys h (Stub k) l = tt
below_keys h (Tree b) l = let R : ℕ → Type 0 = λ n. KeysUnder n b.value.items in let low = l.0 in let e : suc b.value.layer ≡ h = omega arith in subst R e l.1.keys

holes_up : (h m : ℕ) (A : List Item) → h ≤ m → HolesUnder h A → HolesUnder m A
holes_up h m [] e a = tt
holes_up h m (Key k v ∷ A) e a = holes_up h m A e a
holes_up h m (Hole l c ∷ A) e a = (let low = a.0 in omega arith, holes_up h m A e a.1)

pub below_holes : (h : ℕ) (b : Below) → LiesBelow h b → HolesUnder h (below_items h b)
below_holes h Empty l = tt
below_holes h (Stub k) l = (omega arith, tt)
below_holes h (Tree b) l = let low = l.0 in holes_up b.value.layer h b.value.items (omega arith) l.1.holes

stub_link : (n : ℕ) (c : List ℕ) → part_link (suc n) (Hole n c ∷ []) ≡ Some c
unfolding part_link
stub_link n c = rw eqb_same refl

empty_link : (h : ℕ) → part_link h [] ≡ None
unfolding part_link
empty_link zero = refl
empty_link (suc h) = refl

hole_link : (h : ℕ) (c : List ℕ) → 0 < h → part_link h (Hole (h - 1) c ∷ []) ≡ Some c
hole_link zero c l = absurd (omega arith)
hole_link (suc n) c l = let e : suc n - 1 ≡ n = omega arith in rw e (stub_link n c)

pub link_below : (h : ℕ) (b : Below) → LiesBelow h b → part_link h (below_items h b) ≡ below_link b
link_below h Empty l = empty_link h
link_below h (Stub k) l = hole_link h k l
link_below h (Tree b) l = let low = l.0 in let R : ℕ → Type 0 = λ n. part_link n b.value.items ≡ Some (cid (encode_layer b.value.layer b.value.items)) in let e : suc b.value.layer ≡ h = omega arith in subst R e (tree_link b.value.layer b.value.items l.1.holes l.1.some)

pub starts : (h : ℕ) (parts : List Part) → AllAt h parts → StartsAt h (rest_items h parts)
starts h [] a = tt
starts h (p ∷ parts) a = a.0

pub rest_keys : (h : ℕ) (parts : List Part) → AllAt h parts → KeysUnder (suc h) (rest_items h parts)
rest_keys h [] a = tt
rest_keys h (p ∷ parts) a = (let at = a.0 in omega arith, keys_joined (suc h) (below_items h p.below) (rest_items h parts) (keys_up h (suc h) (below_items h p.below) (omega arith) (below_keys h p.below a.1)) (rest_keys h parts a.2))

pub rest_holes : (h : ℕ) (parts : List Part) → AllAt h parts → HolesUnder h (rest_items h parts)
rest_holes h [] a = tt
rest_holes h (p ∷ parts) a = holes_joined h (below_items h p.below) (rest_items h parts) (below_holes h p.below a.1) (rest_holes h parts a.2)

rest_entries : (h : ℕ) (parts : List Part) → AllAt h parts → entries_at (part_link h) h (rest_items h parts) ≡ entries_of parts
rest_entries h [] a = refl
rest_entries h (p ∷ parts) a =
    let A = below_items h p.below in let G = rest_items h parts in
    let keys = below_keys h p.below a.1 in
    let here : eqb (height p.key) h ≡ true = rw a.0 (eqb_same h) in
    rw here (ap (λ r. entry_of p.key p.value r ∷ entries_at (part_link h) h (A ++ G)) (ap (part_link h) (first_joined h A G keys (starts h parts a.2)) ∙ link_below h p.below a.1)
    ∙ ap (λ es. entry_of p.key p.value (below_link p.below) ∷ es) (entries_joined (part_link h) h A G keys ∙ rest_entries h parts a.2))

-- the block of a node
pub encoded_node : (h : ℕ) (first : Below) (parts : List Part) → LiesBelow h first → AllAt h parts → encode_layer h (below_items h first ++ rest_items h parts) ≡ node_bytes (below_link first) (entries_of parts)
encoded_node h first parts l a =
    let A = below_items h first in let G = rest_items h parts in
    let keys = below_keys h first l in
    ap (λ x. node_bytes x (entries_at (part_link h) h (A ++ G))) (ap (part_link h) (first_joined h A G keys (starts h parts a)) ∙ link_below h first l)
    ∙ ap (node_bytes (below_link first)) (entries_joined (part_link h) h A G keys ∙ rest_entries h parts a)

-- what a node holds is at its layer, where it isn't empty
pub at_layer : (h : ℕ) (first : Below) (parts : List Part) → LiesBelow h first → AllAt h parts → 0 < length (below_items h first ++ rest_items h parts) → IsAtLayer (layered h first parts)
at_layer h first parts l a some =
    let A = below_items h first in let G = rest_items h parts in
    record { keys = keys_joined (suc h) A G (keys_up h (suc h) A (omega arith) (below_keys h first l)) (rest_keys h parts a); holes = holes_joined h A G (below_holes h first l) (rest_holes h parts a); some = some }

pub link_is : (h : ℕ) (first : Below) (parts : List Part) (v : Layered) → LiesBelow h first → AllAt h parts → layered h first parts ≡ v → cid (node_bytes (below_link first) (entries_of parts)) ≡ cid (encode_layer v.layer v.items)
link_is h first parts v l a e = ap cid (sym (encoded_node h first parts l a)) ∙ ap (λ (x : Layered). cid (encode_layer x.layer x.items)) e

pub kept_link : (v w : Layered) (c : List ℕ) → v ≡ w → IsKept v (Some c) → c ≡ cid (encode_layer w.layer w.items)
kept_link v w c e k = k ∙ ap (λ (x : Layered). cid (encode_layer x.layer x.items)) e
