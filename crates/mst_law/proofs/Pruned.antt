-- A map's tree with a hole where a block isn't there.
use Rattle.std.proofs.Common.{◌≡◌, ◌≢◌, ℕ, zero, suc, eqb, cond, Bool, true, false, is_some, List, [], ◌∷◌, ◌++◌, refl, sym, ap, ◌∙◌, subst, Option, Some, None, ◌⊎◌, inl, inr, arith, append-nil, Less}
use Rattle.std.specs.FinMap as map
use Rattle.std.specs.FinMap.{FinMap}
use Rattle.sha2.specs.Sha256.{sha256}
use Rattle.at_cid.specs.Link.{IsNodeLink, cid}
use Rattle.at_cid.proofs.Bytes.{cid_is_link}
use Rattle.at_cid.specs.Order.{key_cmp}
use Rattle.at_cid.proofs.Order.{cmp_same}
use Rattle.mst_list.specs.Edits.{Filled}
use Rattle.mst_list.specs.Height.{height}
use Rattle.mst_list.specs.Lists.{AllAbove, Ascends, HolesDiffer, IsMap, Neighbours, NoHoleOf}
use Rattle.mst_list.specs.declared.item.Item.{Item}
use Rattle.mst_list.specs.declared.item.Item.TheVariants.{Hole, Key}
use Rattle.mst_list.proofs.Fills.{IsBelow, filled_join, is_below_parts}
use Rattle.mst_node.specs.Covers.{AreUnderNodeLinks, IsThere, encoded_blocks}
use Rattle.mst_node.specs.Trees.{AllThere, Distinct, HoldsNode, HolesUnder, IsAmong, KeysUnder, NoHoleThere, first_part, nodes_at, part_nodes, right_nodes, encode_layer}
use Rattle.mst_node.proofs.Cuts.{first_map}
use Rattle.mst_node.proofs.Filling.{links_alike, node_filled}
use Rattle.mst_node.proofs.Joins.{StartsAt, first_joined, holes_joined, holes_more, lead_joined, lead_part, missing_joined, near_joined, rest_part, rights_joined, there_joined, there_part, two_parts}
use Rattle.mst_node.proofs.Layers.{eqb_same, eqb_yes, first_keys}
use Rattle.mst_node.proofs.Links.{cid_same}
use Rattle.mst_node.proofs.Once.{one_map}
use Rattle.mst_node.proofs.Telling.{IsWithin, among_first, among_last, keys_up_to}

-- the keys of a list are those of what fills it
pub keys_of_filled : (h : ℕ) (F P : List Item) → Filled HoldsNode F P → KeysUnder h P → KeysUnder h F
keys_of_filled h [] P f k = tt
keys_of_filled h (Key j v ∷ F) P f k =
    let R : List Item → Type 0 = λ x. KeysUnder h x in let k' = subst R f.1 k in (k'.0, keys_of_filled h F f.0 f.2 k'.1)
keys_of_filled h (Hole l c ∷ F) P f k =
    let R : List Item → Type 0 = λ x. KeysUnder h x in keys_of_filled h F f.1 f.4 (last f.0 f.1 (subst R f.2 k))
  where
    last : (a b : List Item) → KeysUnder h (a ++ b) → KeysUnder h b
    last [] b x = x
    last (Key j v ∷ a) b x = last a b x.1
    last (Hole m d ∷ a) b x = last a b x

-- the key is one of the list's
abbrev pub HasKey : List ℕ → List Item → Type 0
HasKey k [] = ⊥
HasKey k (Key j v ∷ F) = (k ≡ j) ⊎ HasKey k F
HasKey k (Hole l c ∷ F) = HasKey k F

pub has_first : (k : List ℕ) (A B : List Item) → HasKey k A → HasKey k (A ++ B)
has_first k (Key j v ∷ A) B (inl e) = inl e
has_first k (Key j v ∷ A) B (inr h) = inr (has_first k A B h)
has_first k (Hole l c ∷ A) B h = has_first k A B h
has_first k [] B h = absurd h

pub has_last : (k : List ℕ) (A B : List Item) → HasKey k B → HasKey k (A ++ B)
has_last k [] B h = h
has_last k (Key j v ∷ A) B h = inr (has_last k A B h)
has_last k (Hole l c ∷ A) B h = has_last k A B h

pub above_of : (j k : List ℕ) (B : List Item) → AllAbove j B → HasKey k B → key_cmp j k ≡ Less
above_of j k (Key i v ∷ B) a (inl e) = rw e a.0
above_of j k (Key i v ∷ B) a (inr h) = above_of j k B a.1 h
above_of j k (Hole l c ∷ B) a h = above_of j k B a h
above_of j k [] a h = absurd h

pub never_both : (k : List ℕ) (A B : List Item) → IsBelow A B → HasKey k A → HasKey k B → ⊥
never_both k (Key j v ∷ A) B low (inl e) h = let less = above_of j k B low.0 h in let same = cmp_same k in absurd (cc)
never_both k (Key j v ∷ A) B low (inr g) h = never_both k A B low.1 g h
never_both k (Hole l c ∷ A) B low g h = never_both k A B low g h
never_both k [] B low g h = absurd g

module _ (S : List (List ℕ)) (distinct : Distinct S) (B : FinMap key_cmp (List ℕ)) (under : AreUnderNodeLinks B)
    (alike : (c b a : List ℕ) → IsNodeLink c → map.get B c ≡ Some b → IsAmong a S → sha256 b ≡ sha256 a → b ≡ a) where
  -- a block of the tree whose link is there is there
  is_there : (a : List ℕ) → IsAmong a S → is_some (map.get B (cid a)) ≡ true → IsThere B a
  is_there a i e = go (map.get B (cid a)) refl e
    where
      go : (o : Option (List ℕ)) → map.get B (cid a) ≡ o → is_some o ≡ true → map.get B (cid a) ≡ Some a
      go None h e = absurd (cc)
      go (Some b) h e = h ∙ ap Some (alike (cid a) b a (cid_is_link a) h i (sym (cid_same a b (under (cid a) b (cid_is_link a) h))))

  -- the map with holes
  abbrev pub pruned_rights : (List Item → List Item) → ℕ → List Item → List Item
  pruned_rights part h [] = []
  pruned_rights part h (Key k v ∷ F) = cond (eqb (height k) h) (Key k v ∷ (part (first_part h F) ++ pruned_rights part h F)) (pruned_rights part h F)
  pruned_rights part h (Hole l c ∷ F) = pruned_rights part h F

  unfoldable pub pruned_part : ℕ → List Item → List Item
  pruned_part zero P = []
  pruned_part (suc h) [] = []
  pruned_part (suc h) (x ∷ P) = cond (is_some (map.get B (cid (encode_layer h (x ∷ P)))))
      (pruned_part h (first_part h (x ∷ P)) ++ pruned_rights (pruned_part h) h (x ∷ P)) (Hole h (cid (encode_layer h (x ∷ P))) ∷ [])

  abbrev pub pruned_node : ℕ → List Item → List Item
  pruned_node h P = pruned_part h (first_part h P) ++ pruned_rights (pruned_part h) h P

  -- the link is that of a map whose first key is one of the list's
  pub record IsFrom (P : List Item) (c : List ℕ) : Type 0 where
    pub key : List ℕ
    pub value : List ℕ
    pub rest : List Item
    pub layer : ℕ
    pub is_map : IsMap (Key key value ∷ rest)
    pub keys : KeysUnder (suc layer) (Key key value ∷ rest)
    pub within : IsWithin (nodes_at layer (Key key value ∷ rest)) S
    pub link : c ≡ cid (encode_layer layer (Key key value ∷ rest))
    pub inside : HasKey key P

  abbrev pub HolesFrom : List Item → List Item → Type 0
  HolesFrom P [] = Unit {0}
  HolesFrom P (Key k v ∷ F) = HolesFrom P F
  HolesFrom P (Hole l c ∷ F) = IsFrom P c × HolesFrom P F

  from_more : (P Q F : List Item) → ((k : List ℕ) → HasKey k P → HasKey k Q) → HolesFrom P F → HolesFrom Q F
  from_more P Q [] w h = tt
  from_more P Q (Key k v ∷ F) w h = from_more P Q F w h
  from_more P Q (Hole l c ∷ F) w h =
      let f = h.0 in
      (record { key = f.key; value = f.value; rest = f.rest; layer = f.layer; is_map = f.is_map; keys = f.keys; within = f.within; link = f.link; inside = w f.key f.inside }, from_more P Q F w h.1)

  from_joined : (P F G : List Item) → HolesFrom P F → HolesFrom P G → HolesFrom P (F ++ G)
  from_joined P [] G f g = g
  from_joined P (Key k v ∷ F) G f g = from_joined P F G f g
  from_joined P (Hole l c ∷ F) G f g = (f.0, from_joined P F G f.1 g)

  not_both : (P Q : List Item) (c d : List ℕ) → IsBelow P Q → IsFrom P c → IsFrom Q d → c ≢ d
  not_both P Q c d low f g e =
      let one = one_map S distinct f.layer g.layer f.key f.value g.key g.value f.rest g.rest f.is_map g.is_map f.keys g.keys f.within g.within (sym f.link ∙ e ∙ g.link) in
      let key : f.key ≡ g.key = cc in
      let R : List ℕ → Type 0 = λ k. HasKey k P in
      never_both g.key P Q low (subst R key f.inside) g.inside

  no_hole_of : (P Q : List Item) (c : List ℕ) (G : List Item) → IsBelow P Q → IsFrom P c → HolesFrom Q G → NoHoleOf c G
  no_hole_of P Q c [] low f g = tt
  no_hole_of P Q c (Key k v ∷ G) low f g = no_hole_of P Q c G low f g
  no_hole_of P Q c (Hole l d ∷ G) low f g = (not_both P Q c d low f g.0, no_hole_of P Q c G low f g.1)

  no_hole_joined : (c : List ℕ) (F G : List Item) → NoHoleOf c F → NoHoleOf c G → NoHoleOf c (F ++ G)
  no_hole_joined c [] G f g = g
  no_hole_joined c (Key k v ∷ F) G f g = no_hole_joined c F G f g
  no_hole_joined c (Hole l d ∷ F) G f g = (f.0, no_hole_joined c F G f.1 g)

  differ_joined : (P Q F G : List Item) → IsBelow P Q → HolesFrom P F → HolesFrom Q G → HolesDiffer F → HolesDiffer G → HolesDiffer (F ++ G)
  differ_joined P Q [] G low f g df dg = dg
  differ_joined P Q (Key k v ∷ F) G low f g df dg = differ_joined P Q F G low f g df dg
  differ_joined P Q (Hole l c ∷ F) G low f g df dg = (no_hole_joined c F G df.0 (no_hole_of P Q c G low f.0 g), differ_joined P Q F G low f.1 g df.1 dg)

  -- what a list with holes has of a part
  pub record IsPruned (h : ℕ) (P F : List Item) : Type 0 where
    pub filled : Filled HoldsNode F P
    pub holes : HolesUnder h F
    pub near : Neighbours F
    pub from : HolesFrom P F
    pub differ : HolesDiffer F
    pub there : AllThere B (part_nodes h F)
    pub missing : NoHoleThere B F

  -- and of what follows a node's first part
  pub record IsPrunedRest (h : ℕ) (P G : List Item) : Type 0 where
    pub filled : Filled HoldsNode G P
    pub holes : HolesUnder h G
    pub near : Neighbours G
    pub starts : StartsAt h G
    pub from : HolesFrom P G
    pub differ : HolesDiffer G
    pub there : AllThere B (right_nodes (part_nodes h) h G)
    pub missing : NoHoleThere B G

  abbrev PartsPruned : ℕ → Type 0
  PartsPruned h = (P : List Item) → IsMap P → KeysUnder h P → IsWithin (part_nodes h P) S → IsPruned h P (pruned_part h P)

  -- an entry, the part to its right and what follows
  entry_pruned : (h : ℕ) (k v : List ℕ) (P A G : List Item) → eqb (height k) h ≡ true → IsMap P → KeysUnder (suc h) P → IsPruned h (first_part h P) A → IsPrunedRest h (rest_part h P) G → IsPrunedRest h (Key k v ∷ P) (Key k v ∷ (A ++ G))
  entry_pruned h k v P A G e m keys a g =
      let F = first_part h P in let R = rest_part h P in
      let whole = two_parts h P in
      let is = eqb_yes (height k) h e in
      let ka = keys_of_filled h A F a.filled (first_keys h P keys) in
      let FA : List Item → Type 0 = λ x. Filled HoldsNode (A ++ G) x in
      let U : List Item → Type 0 = λ x. Ascends x in
      let low = (is_below_parts F R (subst U (sym whole) m.ascends)).1 in
      let W : Bool → Type 0 = λ b. AllThere B (cond b (part_nodes h (first_part h (A ++ G)) ++ right_nodes (part_nodes h) h (A ++ G)) (right_nodes (part_nodes h) h (A ++ G))) in
      let T : List (List ℕ) → Type 0 = λ x. AllThere B x in
      record {
        filled = (P, refl, subst FA whole (filled_join HoldsNode A G F R a.filled g.filled));
        holes = holes_joined h A G a.holes g.holes;
        near = (lead_joined k v h A G (lead_part h k v A is a.holes) g.starts, near_joined h A G a.near a.holes g.starts g.near);
        starts = is;
        from = from_joined (Key k v ∷ P) A G
            (from_more F (Key k v ∷ P) A (λ j i. let K : List Item → Type 0 = λ x. HasKey j x in inr (subst K whole (has_first j F R i))) a.from)
            (from_more R (Key k v ∷ P) G (λ j i. let K : List Item → Type 0 = λ x. HasKey j x in inr (subst K whole (has_last j F R i))) g.from);
        differ = differ_joined F R A G low a.from g.from a.differ g.differ;
        there = subst W (sym e) (there_joined B (part_nodes h (first_part h (A ++ G))) (right_nodes (part_nodes h) h (A ++ G))
            (subst T (sym (ap (part_nodes h) (first_joined h A G ka g.starts))) a.there)
            (subst T (sym (rights_joined (part_nodes h) h A G ka)) g.there));
        missing = missing_joined B A G a.missing g.missing;
      }

  rest_pruned : (h : ℕ) → PartsPruned h → (P : List Item) → IsMap P → KeysUnder (suc h) P → IsWithin (right_nodes (part_nodes h) h P) S → IsPrunedRest h (rest_part h P) (pruned_rights (pruned_part h) h P)
  rest_pruned h ih [] m keys w = record { filled = refl; holes = tt; near = tt; starts = tt; from = tt; differ = tt; there = tt; missing = tt }
  rest_pruned h ih (Hole l c ∷ P) m keys w = absurd m.keys_only
  rest_pruned h ih (Key k v ∷ P) m keys w =
      let m' : IsMap P = record { formed = m.formed.1; ascends = m.ascends.1; keys_only = m.keys_only } in
      let A = pruned_part h (first_part h P) in let G = pruned_rights (pruned_part h) h P in
      let C : Bool → Type 0 = λ b. IsWithin (cond b (part_nodes h (first_part h P) ++ right_nodes (part_nodes h) h P) (right_nodes (part_nodes h) h P)) S in
      elim (eqb (height k) h) as (λ b. eqb (height k) h ≡ b → IsPrunedRest h (cond b (Key k v ∷ P) (rest_part h P)) (cond b (Key k v ∷ (A ++ G)) G)) [
        | true ↦ λ e.
            let w' = subst C e w in
            entry_pruned h k v P A G e m' keys.1 (ih (first_part h P) (first_map h P m') (first_keys h P keys.1) (λ b i. w' b (among_first b (part_nodes h (first_part h P)) (right_nodes (part_nodes h) h P) i)))
            (rest_pruned h ih P m' keys.1 (λ b i. w' b (among_last b (part_nodes h (first_part h P)) (right_nodes (part_nodes h) h P) i)))
        | false ↦ λ e. rest_pruned h ih P m' keys.1 (subst C e w)
      ] refl

  -- a node whose block is there
  pub record IsPrunedNode (h : ℕ) (P F : List Item) : Type 0 where
    pub filled : Filled HoldsNode F P
    pub holes : HolesUnder h F
    pub near : Neighbours F
    pub from : HolesFrom P F
    pub differ : HolesDiffer F
    pub there : AllThere B (nodes_at h F)
    pub missing : NoHoleThere B F

  pub node_pruned : (h : ℕ) → PartsPruned h → (P : List Item) → IsMap P → KeysUnder (suc h) P → IsWithin (nodes_at h P) S → IsThere B (encode_layer h P) → IsPrunedNode h P (pruned_node h P)
  node_pruned h ih P m keys w at =
      let F = first_part h P in let R = rest_part h P in
      let A = pruned_part h F in let G = pruned_rights (pruned_part h) h P in
      let a = ih F (first_map h P m) (first_keys h P keys) (λ b i. w b (inr (among_first b (part_nodes h F) (right_nodes (part_nodes h) h P) i))) in
      let g = rest_pruned h ih P m keys (λ b i. w b (inr (among_last b (part_nodes h F) (right_nodes (part_nodes h) h P) i))) in
      let whole = two_parts h P in
      let ka = keys_of_filled h A F a.filled (first_keys h P keys) in
      let FA : List Item → Type 0 = λ x. Filled HoldsNode (A ++ G) x in
      let U : List Item → Type 0 = λ x. Ascends x in
      let low = (is_below_parts F R (subst U (sym whole) m.ascends)).1 in
      let T : List (List ℕ) → Type 0 = λ x. AllThere B x in
      let filled = subst FA whole (filled_join HoldsNode A G F R a.filled g.filled) in
      let holes = holes_joined h A G a.holes g.holes in
      let near = near_joined h A G a.near a.holes g.starts g.near in
      let I : List ℕ → Type 0 = λ b. IsThere B b in
      record {
        filled = filled;
        holes = holes;
        near = near;
        from = from_joined P A G
            (from_more F P A (λ j i. let K : List Item → Type 0 = λ x. HasKey j x in subst K whole (has_first j F R i)) a.from)
            (from_more R P G (λ j i. let K : List Item → Type 0 = λ x. HasKey j x in subst K whole (has_last j F R i)) g.from);
        differ = differ_joined F R A G low a.from g.from a.differ g.differ;
        there = (
          subst I (node_filled h (links_alike h) (A ++ G) P (keys_of_filled (suc h) (A ++ G) P filled keys) holes near filled) at,
          there_joined B (part_nodes h (first_part h (A ++ G))) (right_nodes (part_nodes h) h (A ++ G))
              (subst T (sym (ap (part_nodes h) (first_joined h A G ka g.starts))) a.there)
              (subst T (sym (rights_joined (part_nodes h) h A G ka)) g.there),
        );
        missing = missing_joined B A G a.missing g.missing;
      }

  none_of : (o : Option (List ℕ)) → is_some o ≡ false → o ≡ None
  none_of None e = refl
  none_of (Some b) e = absurd (cc)

  -- a hole in the place of a part
  hole_pruned : (h : ℕ) (k v : List ℕ) (P : List Item) → IsMap (Key k v ∷ P) → KeysUnder (suc h) (Key k v ∷ P) → IsWithin (nodes_at h (Key k v ∷ P)) S → map.get B (cid (encode_layer h (Key k v ∷ P))) ≡ None
      → IsPruned (suc h) (Key k v ∷ P) (Hole h (cid (encode_layer h (Key k v ∷ P))) ∷ [])
  unfolding part_nodes
  hole_pruned h k v P m keys w none =
      let c = cid (encode_layer h (Key k v ∷ P)) in
      let T : Bool → Type 0 = λ b. AllThere B (cond b [] (nodes_at h (Hole h c ∷ []))) in
      record {
        filled = (Key k v ∷ P, [], sym (append-nil (Key k v ∷ P)), record { is_map = m; some = omega arith; up_to = keys_up_to h (Key k v ∷ P) keys; encoded = refl }, refl);
        holes = (omega arith, tt);
        near = (tt, tt);
        from = (record { key = k; value = v; rest = P; layer = h; is_map = m; keys = keys; within = w; link = refl; inside = inl refl }, tt);
        differ = (tt, tt);
        there = subst T (sym (eqb_same h)) tt;
        missing = (none, tt);
      }

  part_of_node : (h : ℕ) (P F : List Item) → IsPrunedNode h P F → IsPruned (suc h) P F
  part_of_node h P F n = record { filled = n.filled; holes = holes_more h F n.holes; near = n.near; from = n.from; differ = n.differ; there = there_part B h F n.there; missing = n.missing }

  pub parts_pruned : (h : ℕ) → PartsPruned h
  unfolding pruned_part part_nodes
  parts_pruned zero [] m keys w = record { filled = refl; holes = tt; near = tt; from = tt; differ = tt; there = tt; missing = tt }
  parts_pruned zero (Key k v ∷ P) m keys w = let low = keys.0 in absurd (omega arith)
  parts_pruned zero (Hole l c ∷ P) m keys w = absurd m.keys_only
  parts_pruned (suc h) [] m keys w = record { filled = refl; holes = tt; near = tt; from = tt; differ = tt; there = tt; missing = tt }
  parts_pruned (suc h) (Hole l c ∷ P) m keys w = absurd m.keys_only
  parts_pruned (suc h) (Key k v ∷ P) m keys w =
      elim (is_some (map.get B (cid (encode_layer h (Key k v ∷ P))))) as (λ b. is_some (map.get B (cid (encode_layer h (Key k v ∷ P)))) ≡ b → IsPruned (suc h) (Key k v ∷ P) (cond b (pruned_node h (Key k v ∷ P)) (Hole h (cid (encode_layer h (Key k v ∷ P))) ∷ []))) [
        | true ↦ λ e. part_of_node h (Key k v ∷ P) (pruned_node h (Key k v ∷ P)) (node_pruned h (parts_pruned h) (Key k v ∷ P) m keys w (is_there (encode_layer h (Key k v ∷ P)) (w (encode_layer h (Key k v ∷ P)) (inl refl)) e))
        | false ↦ λ e. hole_pruned h k v P m keys w (none_of (map.get B (cid (encode_layer h (Key k v ∷ P)))) e)
      ] refl
