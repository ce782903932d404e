-- The blocks on the ways to keys, part by part.
use Rattle.std.proofs.Common.{◌≡◌, ℕ, zero, suc, ◌+◌, ◌<◌, Bool, true, false, ◌&&◌, ◌||◌, cond, eqb, List, [], ◌∷◌, ◌++◌, length, map, refl, sym, ap, ◌∙◌, subst, Option, Some, None, Less, Equal, Greater, arith}
use Rattle.std.specs.List.{filter}
use Rattle.std.proofs.lemmas.List.{map-append}
use Rattle.std.proofs.lemmas.List.Elements.{filter-append}
use Rattle.sha2.specs.Sha256.{sha256}
use Rattle.at_cid.specs.Link.{cid, digest_of}
use Rattle.at_cid.specs.Order.{key_cmp}
use Rattle.at_cid.proofs.Order.{cmp_trans}
use Rattle.at_car.specs.Blocks.{BlockMap, kept}
use Rattle.mst_list.specs.declared.item.Item.{Item}
use Rattle.mst_list.specs.declared.item.Item.TheVariants.{Key, Hole}
use Rattle.mst_list.specs.Edits.{by_order}
use Rattle.mst_list.specs.Height.{height}
use Rattle.mst_list.specs.Lists.{AllAbove}
use Rattle.mst_list.proofs.Places.{AllBelow}
use Rattle.mst_list.proofs.Fills.{below_key, is_below_parts, keys_only_parts}
use Rattle.mst_node.specs.Covers.{Encoded, IsOver, IsUnder, bound_at, part_encoded, right_encoded}
use Rattle.mst_node.specs.Fits.{is_less, is_under}
use Rattle.mst_node.specs.Reading.{is_over}
use Rattle.mst_node.specs.Trees.{first_part, encode_layer, KeysUnder}
use Rattle.mst_node.proofs.Joins.{first_joined}
use Rattle.mst_node.proofs.Layers.{eqb_not, eqb_same}
use Rattle.mst_node.specs.NodeBytes.{node_bytes}
use Rattle.mst_view.specs.Value.{Layered}
use Rattle.mst_view.specs.Layered.{AllAt, LiesBelow, below_items, below_link, entries_of, layered, rest_items}
use Rattle.mst_view.specs.declared.branch.Below.{Below}
use Rattle.mst_view.specs.declared.branch.Part.{Part}
use Rattle.mst_view.proofs.Encoded.{below_keys, encoded_node, starts}
use Rattle.relay_gen.specs.Covers.{one_between, is_on_ways, on_ways}
use Rattle.relay_gen.specs.Messages.{with_blocks}
use Rattle.relay_gen.specs.Walks.{AreBetween, IsRange, node_encoded, part_bound}

abbrev block_of : Encoded → List ℕ
block_of e = e.block

pub ways_joined : (keys : List (List ℕ)) (X Y : List Encoded) → on_ways keys (X ++ Y) ≡ on_ways keys X ++ on_ways keys Y
ways_joined keys X Y = ap (map block_of) (filter-append (is_on_ways keys) X Y) ∙ map-append block_of (filter (is_on_ways keys) X) (filter (is_on_ways keys) Y)

pub blocks_joined : (m : BlockMap) (X Y : List (List ℕ)) → with_blocks m (X ++ Y) ≡ with_blocks (with_blocks m X) Y
blocks_joined m [] Y = refl
blocks_joined m (x ∷ X) Y = blocks_joined (kept m (cid x) x) X Y

-- the same in one step
pub with_both : (keys : List (List ℕ)) (m : BlockMap) (X Y : List Encoded) → with_blocks m (on_ways keys (X ++ Y)) ≡ with_blocks (with_blocks m (on_ways keys X)) (on_ways keys Y)
with_both keys m X Y = ap (with_blocks m) (ways_joined keys X Y) ∙ blocks_joined m (on_ways keys X) (on_ways keys Y)

-- a bound isn't below another, or not above it
abbrev IsInsideLow : Option (List ℕ) → Option (List ℕ) → Type 0
IsInsideLow outer inner = (k : List ℕ) → is_over inner k ≡ true → is_over outer k ≡ true

abbrev IsInsideHigh : Option (List ℕ) → Option (List ℕ) → Type 0
IsInsideHigh outer inner = (k : List ℕ) → is_under k inner ≡ true → is_under k outer ≡ true

less_true : (j k : List ℕ) → is_less j k ≡ true → key_cmp j k ≡ Less
less_true j k = elim (key_cmp j k) as (λ o. by_order o true false false ≡ true → o ≡ Less) [
  | Less ↦ λ e. refl
  | Equal ↦ λ e. absurd cc
  | Greater ↦ λ e. absurd cc
]

inside_low : (outer : Option (List ℕ)) (j : List ℕ) → IsOver outer j → IsInsideLow outer (Some j)
inside_low None j over k e = refl
inside_low (Some i) j over k e = rw (cmp_trans i j k over (less_true j k e)) refl

inside_high : (outer : Option (List ℕ)) (j : List ℕ) → IsUnder j outer → IsInsideHigh outer (Some j)
inside_high None j under k e = refl
inside_high (Some i) j under k e = rw (cmp_trans k j i (less_true k j e) under) refl

or_back : (x y : Bool) → (x || y) ≡ false → y ≡ false
or_back true y e = absurd cc
or_back false y e = e

narrow_step : (p q r s x y : Bool) → (p ≡ true → r ≡ true) → (q ≡ true → s ≡ true) → ((r && s) || x) ≡ false → (x ≡ false → y ≡ false) → ((p && q) || y) ≡ false
narrow_step false q r s x y a b e ih = ih (or_back (r && s) x e)
narrow_step true false r s x y a b e ih = ih (or_back (r && s) x e)
narrow_step true true true true x y a b e ih = absurd cc
narrow_step true true false s x y a b e ih = absurd (let t = a refl in cc)
narrow_step true true true false x y a b e ih = absurd (let t = b refl in cc)

narrower : (low high l h : Option (List ℕ)) (keys : List (List ℕ)) → IsInsideLow low l → IsInsideHigh high h → one_between low high keys ≡ false → one_between l h keys ≡ false
narrower low high l h [] a b e = refl
narrower low high l h (k ∷ keys) a b e = narrow_step (is_over l k) (is_under k h) (is_over low k) (is_under k high) (one_between low high keys) (one_between l h keys) (a k) (b k) e (narrower low high l h keys a b)

between_parts : (l h : Option (List ℕ)) (A B : List Item) → AreBetween l h (A ++ B) → AreBetween l h A × AreBetween l h B
between_parts l h [] B w = (tt, w)
between_parts l h (Key k v ∷ A) B w = let r = between_parts l h A B w.2 in ((w.0, w.1, r.0), r.1)
between_parts l h (Hole m c ∷ A) B w = between_parts l h A B w

first_between : (l h : Option (List ℕ)) (n : ℕ) (F : List Item) → AreBetween l h F → AreBetween l h (first_part n F)
first_between l h n [] w = tt
first_between l h n (Hole m c ∷ F) w = first_between l h n F w
first_between l h n (Key k v ∷ F) w = elim (eqb (height k) n) as (λ b. AreBetween l h (cond b [] (Key k v ∷ first_part n F))) [ true ↦ tt | false ↦ (w.0, w.1, first_between l h n F w.2) ]

-- the bound behind a part stands inside
bound_inside : (low high h : Option (List ℕ)) (n : ℕ) (F : List Item) → IsInsideHigh high h → AreBetween low high F → IsInsideHigh high (bound_at n h F)
bound_inside low high h n [] i w = i
bound_inside low high h n (Hole m c ∷ F) i w = bound_inside low high h n F i w
bound_inside low high h n (Key k v ∷ F) i w = elim (eqb (height k) n) as (λ b. IsInsideHigh high (cond b (Some k) (bound_at n h F))) [ true ↦ inside_high high k w.1 | false ↦ bound_inside low high h n F i w.2 ]

-- where no key lies between the outer bounds, no block inside is on a way
abbrev NoneInside : Option (List ℕ) → Option (List ℕ) → List (List ℕ) → ℕ → Type 0
NoneInside low high keys n = (l h : Option (List ℕ)) (F : List Item) → IsInsideLow low l → IsInsideHigh high h → AreBetween low high F → on_ways keys (part_encoded n l h F) ≡ []

none_right : (low high : Option (List ℕ)) (keys : List (List ℕ)) (n : ℕ) → NoneInside low high keys n → (h : Option (List ℕ)) (F : List Item) → IsInsideHigh high h → AreBetween low high F → on_ways keys (right_encoded (part_encoded n) n h F) ≡ []
none_right low high keys n ih h [] i w = refl
none_right low high keys n ih h (Hole m c ∷ F) i w = none_right low high keys n ih h F i w
none_right low high keys n ih h (Key k v ∷ F) i w =
    let X = part_encoded n (Some k) (bound_at n h F) (first_part n F) in let Y = right_encoded (part_encoded n) n h F in
    let rest = none_right low high keys n ih h F i w.2 in
    elim (eqb (height k) n) as (λ b. on_ways keys (cond b (X ++ Y) Y) ≡ []) [
      | true ↦ ways_joined keys X Y ∙ ap (λ x. x ++ on_ways keys Y) (ih (Some k) (bound_at n h F) (first_part n F) (inside_low low k w.0) (bound_inside low high h n F i w.2) (first_between low high n F w.2)) ∙ rest
      | false ↦ rest
    ]

dropped : (keys : List (List ℕ)) (e : Encoded) (X : List Encoded) → is_on_ways keys e ≡ false → on_ways keys (e ∷ X) ≡ on_ways keys X
dropped keys e X f = rw f refl

pub taken : (keys : List (List ℕ)) (e : Encoded) (X : List Encoded) → is_on_ways keys e ≡ true → on_ways keys (e ∷ X) ≡ e.block ∷ on_ways keys X
taken keys e X f = rw f refl

none_node : (low high : Option (List ℕ)) (keys : List (List ℕ)) → one_between low high keys ≡ false → (n : ℕ) → NoneInside low high keys n → (l h : Option (List ℕ)) (F : List Item) → IsInsideLow low l → IsInsideHigh high h → AreBetween low high F → on_ways keys (node_encoded n l h F) ≡ []
none_node low high keys none n ih l h F a b w =
    let X = part_encoded n l (bound_at n h F) (first_part n F) in let Y = right_encoded (part_encoded n) n h F in
    dropped keys (record { low = l; high = h; block = encode_layer n F }) (X ++ Y) (narrower low high l h keys a b none)
    ∙ ways_joined keys X Y
    ∙ ap (λ x. x ++ on_ways keys Y) (ih l (bound_at n h F) (first_part n F) a (bound_inside low high h n F b w) (first_between low high n F w))
    ∙ none_right low high keys n ih h F b w

none_inside : (low high : Option (List ℕ)) (keys : List (List ℕ)) → one_between low high keys ≡ false → (n : ℕ) → NoneInside low high keys n
unfolding part_encoded
none_inside low high keys none zero l h F a b w = refl
none_inside low high keys none (suc n) l h [] a b w = refl
none_inside low high keys none (suc n) l h (x ∷ F) a b w = none_node low high keys none n (none_inside low high keys none n) l h (x ∷ F) a b w

-- no block of a node is on a way where no key lies between its bounds
pub none_here : (keys : List (List ℕ)) (n : ℕ) (low high : Option (List ℕ)) (F : List Item) → IsRange low high F → one_between low high keys ≡ false → on_ways keys (node_encoded n low high F) ≡ []
none_here keys n low high F r none = none_node low high keys none n (none_inside low high keys none n) low high F (λ k e. e) (λ k e. e) r.between

bound_joined : (n : ℕ) (high : Option (List ℕ)) (A G : List Item) → KeysUnder n A → bound_at n high (A ++ G) ≡ bound_at n high G
bound_joined n high [] G u = refl
bound_joined n high (Hole m c ∷ A) G u = bound_joined n high A G u
bound_joined n high (Key k v ∷ A) G u = let low = u.0 in rw (eqb_not (height k) n (λ e. absurd (omega arith))) (bound_joined n high A G u.1)

right_joined : (n : ℕ) (high : Option (List ℕ)) (A G : List Item) → KeysUnder n A → right_encoded (part_encoded n) n high (A ++ G) ≡ right_encoded (part_encoded n) n high G
right_joined n high [] G u = refl
right_joined n high (Hole m c ∷ A) G u = right_joined n high A G u
right_joined n high (Key k v ∷ A) G u = let low = u.0 in rw (eqb_not (height k) n (λ e. absurd (omega arith))) (right_joined n high A G u.1)

bound_parts : (n : ℕ) (high : Option (List ℕ)) (parts : List Part) → AllAt n parts → bound_at n high (rest_items n parts) ≡ part_bound high parts
bound_parts n high [] a = refl
bound_parts n high (p ∷ parts) a = rw (a.0, eqb_same n) refl

-- the blocks of a node, by its parts
pub node_parts : (n : ℕ) (low high : Option (List ℕ)) (first : Below) (parts : List Part) → LiesBelow n first → AllAt n parts →
    node_encoded n low high (below_items n first ++ rest_items n parts)
    ≡ record { low = low; high = high; block = encode_layer n (below_items n first ++ rest_items n parts) } ∷ (part_encoded n low (part_bound high parts) (below_items n first) ++ right_encoded (part_encoded n) n high (rest_items n parts))
node_parts n low high first parts l a =
    let A = below_items n first in let G = rest_items n parts in let keys = below_keys n first l in
    let here : Encoded = record { low = low; high = high; block = encode_layer n (A ++ G) } in
    ap (λ b. here ∷ (part_encoded n low b (first_part n (A ++ G)) ++ right_encoded (part_encoded n) n high (A ++ G))) (bound_joined n high A G keys ∙ bound_parts n high parts a)
    ∙ ap (λ F. here ∷ (part_encoded n low (part_bound high parts) F ++ right_encoded (part_encoded n) n high (A ++ G))) (first_joined n A G keys (starts n parts a))
    ∙ ap (λ X. here ∷ (part_encoded n low (part_bound high parts) A ++ X)) (right_joined n high A G keys)

-- the blocks behind the keys of a node, by its first part and the others
pub right_parts : (n : ℕ) (high : Option (List ℕ)) (p : Part) (parts : List Part) → AllAt n (p ∷ parts) →
    right_encoded (part_encoded n) n high (rest_items n (p ∷ parts))
    ≡ part_encoded n (Some p.key) (part_bound high parts) (below_items n p.below) ++ right_encoded (part_encoded n) n high (rest_items n parts)
right_parts n high p parts a =
    let A = below_items n p.below in let G = rest_items n parts in let keys = below_keys n p.below a.1 in
    let here : eqb (height p.key) n ≡ true = rw a.0 (eqb_same n) in
    rw here (
    ap (λ b. part_encoded n (Some p.key) b (first_part n (A ++ G)) ++ right_encoded (part_encoded n) n high (A ++ G)) (bound_joined n high A G keys ∙ bound_parts n high parts a.2)
    ∙ ap (λ F. part_encoded n (Some p.key) (part_bound high parts) F ++ right_encoded (part_encoded n) n high (A ++ G)) (first_joined n A G keys (starts n parts a.2))
    ∙ ap (λ X. part_encoded n (Some p.key) (part_bound high parts) A ++ X) (right_joined n high A G keys))

above_all : (k : List ℕ) (h : Option (List ℕ)) (A : List Item) → AllAbove k A → AreBetween None h A → AreBetween (Some k) h A
above_all k h [] a b = tt
above_all k h (Key j v ∷ A) a b = (a.0, b.1, above_all k h A a.1 b.2)
above_all k h (Hole l c ∷ A) a b = above_all k h A a b

below_all : (k : List ℕ) (l h : Option (List ℕ)) (A : List Item) → AllBelow k A → AreBetween l h A → AreBetween l (Some k) A
below_all k l h [] a b = tt
below_all k l h (Key j v ∷ A) a b = (b.0, a.0, below_all k l h A a.1 b.2)
below_all k l h (Hole m c ∷ A) a b = below_all k l h A a b

without_low : (l h : Option (List ℕ)) (A : List Item) → AreBetween l h A → AreBetween None h A
without_low l h [] b = tt
without_low l h (Key j v ∷ A) b = (tt, b.1, without_low l h A b.2)
without_low l h (Hole m c ∷ A) b = without_low l h A b

-- what lies before the first key, and what lies behind
pub range_first : (n : ℕ) (low high : Option (List ℕ)) (A : List Item) (parts : List Part) → IsRange low high (A ++ rest_items n parts) → IsRange low (part_bound high parts) A
range_first n low high A [] r = record { keys_only = (keys_only_parts A [] r.keys_only).0; ascends = (is_below_parts A [] r.ascends).0; between = (between_parts low high A [] r.between).0 }
range_first n low high A (p ∷ parts) r =
    let G = below_items n p.below ++ rest_items n parts in
    let up = is_below_parts A (Key p.key p.value ∷ G) r.ascends in
    record { keys_only = (keys_only_parts A (Key p.key p.value ∷ G) r.keys_only).0; ascends = up.0; between = below_all p.key low high A (below_key p.key p.value A G up.1) (between_parts low high A (Key p.key p.value ∷ G) r.between).0 }

pub range_rest : (n : ℕ) (low high : Option (List ℕ)) (A : List Item) (parts : List Part) → IsRange low high (A ++ rest_items n parts) → IsRange None high (rest_items n parts)
range_rest n low high A parts r =
    let G = rest_items n parts in
    record { keys_only = (keys_only_parts A G r.keys_only).1; ascends = (is_below_parts A G r.ascends).2; between = without_low low high G (between_parts low high A G r.between).1 }

pub range_part : (n : ℕ) (high : Option (List ℕ)) (p : Part) (parts : List Part) → IsRange None high (rest_items n (p ∷ parts)) → IsRange (Some p.key) high (below_items n p.below ++ rest_items n parts)
range_part n high p parts r = record { keys_only = r.keys_only; ascends = r.ascends.1; between = above_all p.key high (below_items n p.below ++ rest_items n parts) r.ascends.0 r.between.2 }

-- all keys of a map lie between the ends
pub between_ends : (F : List Item) → AreBetween None None F
between_ends [] = tt
between_ends (Key k v ∷ F) = (tt, tt, between_ends F)
between_ends (Hole l c ∷ F) = between_ends F

-- what lies below layer h is a node of the layer below
pub tree_encoded : (h n : ℕ) (low high : Option (List ℕ)) (F : List Item) → n + 1 ≡ h → 0 < length F → part_encoded h low high F ≡ node_encoded n low high F
unfolding part_encoded
tree_encoded h n low high [] e some = absurd (omega arith)
tree_encoded zero n low high (x ∷ F) e some = absurd (omega arith)
tree_encoded (suc m) n low high (x ∷ F) e some = let same : m ≡ n = omega arith in ap (λ i. node_encoded i low high (x ∷ F)) same

pub empty_part : (h : ℕ) (low high : Option (List ℕ)) → part_encoded h low high [] ≡ []
unfolding part_encoded
empty_part zero low high = refl
empty_part (suc h) low high = refl

pub digest_cid : (block : List ℕ) → digest_of (cid block) ≡ sha256 block
unfolding cid
digest_cid block = refl

-- the block of a node, of which its link is
pub block_encoded : (h : ℕ) (first : Below) (parts : List Part) (v : Layered) (block : List ℕ) → LiesBelow h first → AllAt h parts → layered h first parts ≡ v → block ≡ node_bytes (below_link first) (entries_of parts) → block ≡ encode_layer v.layer v.items
block_encoded h first parts v block l a e b = b ∙ sym (encoded_node h first parts l a) ∙ ap (λ (x : Layered). encode_layer x.layer x.items) e

pub link_encoded : (link block : List ℕ) (v : Layered) → link ≡ cid (encode_layer v.layer v.items) → block ≡ encode_layer v.layer v.items → digest_of link ≡ sha256 block
link_encoded link block v l b = ap digest_of l ∙ digest_cid (encode_layer v.layer v.items) ∙ ap sha256 (sym b)

node_steps : (keys : List (List ℕ)) (m : BlockMap) (n : ℕ) (low high : Option (List ℕ)) (first : Below) (parts : List Part) → LiesBelow n first → AllAt n parts → one_between low high keys ≡ true → (block : List ℕ) → block ≡ encode_layer n (below_items n first ++ rest_items n parts)
    → with_blocks m (on_ways keys (node_encoded n low high (below_items n first ++ rest_items n parts)))
    ≡ with_blocks (with_blocks (kept m (cid block) block) (on_ways keys (part_encoded n low (part_bound high parts) (below_items n first)))) (on_ways keys (right_encoded (part_encoded n) n high (rest_items n parts)))
node_steps keys m n low high first parts l a one block b =
    let F = below_items n first ++ rest_items n parts in let here : Encoded = record { low = low; high = high; block = encode_layer n F } in
    let X = part_encoded n low (part_bound high parts) (below_items n first) in let Y = right_encoded (part_encoded n) n high (rest_items n parts) in
    ap (λ Z. with_blocks m (on_ways keys Z)) (node_parts n low high first parts l a)
    ∙ ap (with_blocks m) (taken keys here (X ++ Y) one)
    ∙ ap (λ c. with_blocks (kept m (cid c) c) (on_ways keys (X ++ Y))) (sym b)
    ∙ with_both keys (kept m (cid block) block) X Y

-- what is added of a node: its block, what is on the ways below it before the first key, and behind the keys
pub node_done : (keys : List (List ℕ)) (m : BlockMap) (n : ℕ) (low high : Option (List ℕ)) (first : Below) (parts : List Part) (v : Layered) → LiesBelow n first → AllAt n parts → layered n first parts ≡ v → one_between low high keys ≡ true → (link block : List ℕ) → link ≡ cid (encode_layer v.layer v.items) → block ≡ encode_layer v.layer v.items
    → with_blocks m (on_ways keys (node_encoded v.layer low high v.items))
    ≡ with_blocks (with_blocks (kept m link block) (on_ways keys (part_encoded n low (part_bound high parts) (below_items n first)))) (on_ways keys (right_encoded (part_encoded n) n high (rest_items n parts)))
node_done keys m n low high first parts v l a e one link block k b =
    let E : Layered → Type 0 = λ x. block ≡ encode_layer x.layer x.items in
    ap (λ (x : Layered). with_blocks m (on_ways keys (node_encoded x.layer low high x.items))) (sym e)
    ∙ node_steps keys m n low high first parts l a one block (subst E (sym e) b)
    ∙ ap (λ c. with_blocks (with_blocks (kept m c block) (on_ways keys (part_encoded n low (part_bound high parts) (below_items n first)))) (on_ways keys (right_encoded (part_encoded n) n high (rest_items n parts)))) (ap cid b ∙ sym k)

-- the same of a part of a node and the parts behind it
pub parts_done : (keys : List (List ℕ)) (m : BlockMap) (n : ℕ) (high : Option (List ℕ)) (p : Part) (parts : List Part) → AllAt n (p ∷ parts)
    → with_blocks m (on_ways keys (right_encoded (part_encoded n) n high (rest_items n (p ∷ parts))))
    ≡ with_blocks (with_blocks m (on_ways keys (part_encoded n (Some p.key) (part_bound high parts) (below_items n p.below)))) (on_ways keys (right_encoded (part_encoded n) n high (rest_items n parts)))
parts_done keys m n high p parts a =
    ap (λ Z. with_blocks m (on_ways keys Z)) (right_parts n high p parts a)
    ∙ with_both keys m (part_encoded n (Some p.key) (part_bound high parts) (below_items n p.below)) (right_encoded (part_encoded n) n high (rest_items n parts))
