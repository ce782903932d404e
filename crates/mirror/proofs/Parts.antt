-- The links of parts.
use Rattle.std.proofs.Common.{◌≡◌, ℕ, zero, suc, ◌<◌, max, Bool, true, false, cond, eqb, List, [], ◌∷◌, length, Some, None, refl, ap, sym, subst, arith, Ordering, Less, Equal, Greater, nat_cmp, is_le, is_lt}
use Rattle.std.specs.Ordering.{ord_max}
use Rattle.std.proofs.lemmas.Bool.{eqb-true}
use Rattle.std.proofs.lemmas.Map.Keys.{ge_from_not_lt, le_from_is_le}
use Rattle.at_cid.specs.Link.{cid}
use Rattle.mst_list.specs.declared.item.Item.{Item}
use Rattle.mst_list.specs.declared.item.Item.TheVariants.{Key, Hole}
use Rattle.mst_node.specs.Trees.{hole_or, node_over, part_link, encode_layer, top_layer}
use Rattle.mirror.specs.Lone.{lone_hole}
use Rattle.mirror.specs.Placed.{item_height}

pub none_below : (h : ℕ) (F : List Item) → h ≡ 0 → part_link h F ≡ None
unfolding part_link
none_below zero F is = refl
none_below (suc h) F is = absurd (omega (arith, is))

pub none_empty : (h : ℕ) (F : List Item) → true ≡ eqb (length F) 0 → part_link h F ≡ None
unfolding part_link
none_empty zero F is = refl
none_empty (suc h) [] is = refl
none_empty (suc h) (x ∷ F) is = let none : length (x ∷ F) ≡ 0 = eqb-true (length (x ∷ F)) 0 (sym is) in absurd (omega (arith, none))

pub some_items : (F : List Item) → false ≡ eqb (length F) 0 → 0 < length F
some_items [] is = absurd cc
some_items (x ∷ F) is = omega arith

hole_there : (b : Bool) (c d other : List ℕ) → cond b (Some c) None ≡ Some d → cond b c other ≡ d
hole_there true c d other h = cc
hole_there false c d other h = absurd cc

hole_elsewhere : (b : Bool) (c other : List ℕ) → cond b (Some c) None ≡ None → cond b c other ≡ other
hole_elsewhere true c other h = absurd cc
hole_elsewhere false c other h = refl

hole_link : (h : ℕ) (F : List Item) (d other : List ℕ) → lone_hole h F ≡ Some d → hole_or h F other ≡ d
hole_link h [] d other is = absurd cc
hole_link h (Key k v ∷ F) d other is = absurd cc
hole_link h (Hole l c ∷ []) d other is = hole_there (eqb l h) c d other is
hole_link h (Hole l c ∷ (x ∷ F)) d other is = absurd cc

other_link : (h : ℕ) (F : List Item) (other : List ℕ) → lone_hole h F ≡ None → hole_or h F other ≡ other
other_link h [] other is = refl
other_link h (Key k v ∷ F) other is = refl
other_link h (Hole l c ∷ []) other is = hole_elsewhere (eqb l h) c other is
other_link h (Hole l c ∷ (x ∷ F)) other is = refl

pub hole_at : (h n : ℕ) (F : List Item) (d : List ℕ) → h ≡ suc n → 0 < length F → lone_hole n F ≡ Some d → part_link h F ≡ Some d
unfolding part_link
hole_at zero n F d is some hole = absurd (omega (arith, is))
hole_at (suc h) n [] d is some hole = absurd (omega (arith, some))
hole_at (suc h) n (x ∷ F) d is some hole =
    let same : n ≡ h = omega (arith, is) in
    ap (λ (c : List ℕ). Some c) (hole_link h (x ∷ F) d (cid (node_over (part_link h) h (x ∷ F))) (subst (λ (m : ℕ). lone_hole m (x ∷ F) ≡ Some d) same hole))

pub node_at : (h n : ℕ) (F : List Item) → h ≡ suc n → 0 < length F → lone_hole n F ≡ None → part_link h F ≡ Some (cid (encode_layer n F))
unfolding part_link
node_at zero n F is some hole = absurd (omega (arith, is))
node_at (suc h) n [] is some hole = absurd (omega (arith, some))
node_at (suc h) n (x ∷ F) is some hole =
    let same : h ≡ n = omega (arith, is) in
    let P : ℕ → Type 0 = λ m. Some (hole_or h (x ∷ F) (cid (node_over (part_link h) h (x ∷ F)))) ≡ Some (cid (encode_layer m (x ∷ F))) in
    subst P same (ap (λ (c : List ℕ). Some c) (other_link h (x ∷ F) (cid (node_over (part_link h) h (x ∷ F))) (subst (λ (m : ℕ). lone_hole m (x ∷ F) ≡ None) (sym same) hole)))

-- the greatest height of one item and others
pub top_more : (x : Item) (F : List Item) → top_layer (x ∷ F) ≡ max (item_height x) (top_layer F)
top_more (Key k v) F = refl
top_more (Hole l c) F = omega arith

-- the greater one of two numbers
pub greater_one : (a b : ℕ) → ord_max nat_cmp a b ≡ max a b
greater_one a b = go (nat_cmp b a) refl
  where
    go : (o : Ordering) → nat_cmp b a ≡ o → cond (is_lt o) a b ≡ max a b
    go Less e = omega (arith, le_from_is_le b a (ap is_le e))
    go Equal e = omega (arith, le_from_is_le b a (ap is_le e), ge_from_not_lt b a (ap is_lt e))
    go Greater e = omega (arith, ge_from_not_lt b a (ap is_lt e))
