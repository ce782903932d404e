-- What is read whole is what is read with holes, where there are none.
use Rattle.std.proofs.Common.{◌≡◌, ℕ, zero, suc, List, [], ◌∷◌, ◌++◌, length, refl, ap, ◌∙◌, subst, Option, Some, None, Result, Ok, ◌⊎◌, inl, inr}
use Rattle.std.specs.FinMap as map
use Rattle.std.specs.FinMap.{FinMap}
use Rattle.at_cid.specs.Link.{IsNodeLink}
use Rattle.at_cid.specs.Order.{key_cmp}
use Rattle.mst_list.specs.declared.item.Item.{Item}
use Rattle.mst_list.specs.declared.item.Item.TheVariants.{Key, Hole}
use Rattle.mst_list.specs.Lists.{HolesDiffer, KeysOnly}
use Rattle.mst_node.specs.declared.entry.Entry.{Entry}
use Rattle.mst_node.specs.Covers.{AreUnderNodeLinks}
use Rattle.mst_node.specs.NodeFaults.{layer_of, next_bound}
use Rattle.mst_node.specs.Nodes.{Node}
use Rattle.mst_node.specs.Reading.{node_of}
use Rattle.mst_node.specs.Trees.{IsView}
use Rattle.mst_node.proofs.Readers.{node_of_is_reader}
use Rattle.mst_node.specs.FirstFault.{in_part, in_whole}
use Rattle.mst_node.specs.Fits.{node_fits, top_fits}
use Rattle.mst_node.specs.TreeReading.{go_on, block_of, or_missing, parts_of, part_at, rights_of, top_of, whole_of}
use Rattle.mst_node.proofs.Finds.{root_there, walk_found, walk_of}
use Rattle.mst_node.proofs.Gives.{walk_given}
use Rattle.mst_node.proofs.Passes.{went_on, passed, there_or_hole}
use Rattle.mst_node.proofs.Steps.{at_link, block_fit}
use Rattle.mst_whole.specs.Walks.{HasKeys}

keys_join : (P T : List Item) → KeysOnly P → KeysOnly T → KeysOnly (P ++ T)
keys_join [] T p t = t
keys_join (Key k v ∷ P) T p t = keys_join P T p t
keys_join (Hole l c ∷ P) T p t = absurd p

keys_front : (P T : List Item) → KeysOnly (P ++ T) → KeysOnly P
keys_front [] T k = tt
keys_front (Key j v ∷ P) T k = keys_front P T k
keys_front (Hole l c ∷ P) T k = k

keys_back : (P T : List Item) → KeysOnly (P ++ T) → KeysOnly T
keys_back [] T k = k
keys_back (Key j v ∷ P) T k = keys_back P T k
keys_back (Hole l c ∷ P) T k = absurd k

no_holes_differ : (F : List Item) → KeysOnly F → HolesDiffer F
no_holes_differ [] k = tt
no_holes_differ (Key j v ∷ F) k = no_holes_differ F k
no_holes_differ (Hole l c ∷ F) k = absurd k

there_whole : (h : ℕ) (c : List ℕ) (inside : List ℕ → Result (List Item) (List ℕ)) (o : Option (List ℕ)) (F : List Item) → or_missing in_whole h c inside o ≡ Ok F → (b : List ℕ) × (o ≡ Some b) × (inside b ≡ Ok F)
there_whole h c inside None F e = absurd (cc)
there_whole h c inside (Some b) F e = (b, refl, e)

module _ (read : List ℕ → Option Node) (B : FinMap key_cmp (List ℕ)) where
  -- what is read whole is read with holes
  abbrev PartsAgree : ℕ → Type 0
  PartsAgree h = (low high c : Option (List ℕ)) (F : List Item) → part_at in_whole read B h low high c ≡ Ok F → (part_at in_part read B h low high c ≡ Ok F) × KeysOnly F

  rests_agree : (h : ℕ) → PartsAgree h → (high : Option (List ℕ)) (es : List Entry) (G : List Item) → rights_of (part_at in_whole read B h) high es ≡ Ok G → (rights_of (part_at in_part read B h) high es ≡ Ok G) × KeysOnly G
  rests_agree h ih high [] G e = let none : [] ≡ G = cc in let K : List Item → Type 0 = λ z. KeysOnly z in (e, subst K none tt)
  rests_agree h ih high (x ∷ es) G e =
      let below = part_at in_whole read B h in
      let s = went_on (below (Some x.key) (next_bound high es) x.right) (λ P. go_on (rights_of below high es) (λ T. Ok (Key x.key x.value ∷ (P ++ T)))) G e in
      let t = went_on (rights_of below high es) (λ T. Ok (Key x.key x.value ∷ (s.0 ++ T))) G s.2 in
      let p = ih (Some x.key) (next_bound high es) x.right s.0 s.1 in
      let r = rests_agree h ih high es t.0 t.1 in
      let last = t.2 in let is : Key x.key x.value ∷ (s.0 ++ t.0) ≡ G = cc in
      let K : List Item → Type 0 = λ z. KeysOnly z in
      (rw (p.0, r.0) t.2, subst K is (keys_join s.0 t.0 p.1 r.1))

  node_agree : (h : ℕ) → PartsAgree h → (low high : Option (List ℕ)) (n : Node) (F : List Item) → parts_of (part_at in_whole read B h) low high n ≡ Ok F → (parts_of (part_at in_part read B h) low high n ≡ Ok F) × KeysOnly F
  node_agree h ih low high n F e =
      let below = part_at in_whole read B h in let es = n.1 in
      let s = went_on (below low (next_bound high es) n.0) (λ P. go_on (rights_of below high es) (λ T. Ok (P ++ T))) F e in
      let t = went_on (rights_of below high es) (λ T. Ok (s.0 ++ T)) F s.2 in
      let p = ih low (next_bound high es) n.0 s.0 s.1 in
      let r = rests_agree h ih high es t.0 t.1 in
      let last = t.2 in let is : s.0 ++ t.0 ≡ F = cc in
      let K : List Item → Type 0 = λ z. KeysOnly z in
      (rw (p.0, r.0) t.2, subst K is (keys_join s.0 t.0 p.1 r.1))

  all_agree : (h : ℕ) → PartsAgree h
  unfolding part_at
  all_agree zero low high c F e = let none : [] ≡ F = cc in let K : List Item → Type 0 = λ z. KeysOnly z in (e, subst K none tt)
  all_agree (suc h) low high None F e = let none : [] ≡ F = cc in let K : List Item → Type 0 = λ z. KeysOnly z in (e, subst K none tt)
  all_agree (suc h) low high (Some c) F e =
      let t = there_whole h c (λ b. block_of (node_fits h low high) (parts_of (part_at in_whole read B h) low high) c (read b)) (map.get B c) F e in
      let p = passed (node_fits h low high) (parts_of (part_at in_whole read B h) low high) c (read t.0) F t.2 in
      let n = node_agree h (all_agree h) low high p.0 F p.3 in
      (at_link in_part read B h low high c ∙ ap (or_missing in_part h c (λ b. block_of (node_fits h low high) (parts_of (part_at in_part read B h) low high) c (read b))) t.1 ∙ block_fit (node_fits h low high) (parts_of (part_at in_part read B h) low high) c (read t.0) p.0 p.1 p.2 ∙ n.0, n.1)

  -- what is read with holes, where there are none, is read whole
  abbrev PartsBack : ℕ → Type 0
  PartsBack h = (low high c : Option (List ℕ)) (F : List Item) → part_at in_part read B h low high c ≡ Ok F → KeysOnly F → part_at in_whole read B h low high c ≡ Ok F

  rests_back : (h : ℕ) → PartsBack h → (high : Option (List ℕ)) (es : List Entry) (G : List Item) → rights_of (part_at in_part read B h) high es ≡ Ok G → KeysOnly G → rights_of (part_at in_whole read B h) high es ≡ Ok G
  rests_back h ih high [] G e k = e
  rests_back h ih high (x ∷ es) G e k =
      let below = part_at in_part read B h in
      let s = went_on (below (Some x.key) (next_bound high es) x.right) (λ P. go_on (rights_of below high es) (λ T. Ok (Key x.key x.value ∷ (P ++ T)))) G e in
      let t = went_on (rights_of below high es) (λ T. Ok (Key x.key x.value ∷ (s.0 ++ T))) G s.2 in
      let last = t.2 in let is : G ≡ Key x.key x.value ∷ (s.0 ++ t.0) = cc in
      let K : List Item → Type 0 = λ z. KeysOnly z in let all = subst K is k in
      rw (ih (Some x.key) (next_bound high es) x.right s.0 s.1 (keys_front s.0 t.0 all), rests_back h ih high es t.0 t.1 (keys_back s.0 t.0 all)) t.2

  node_back : (h : ℕ) → PartsBack h → (low high : Option (List ℕ)) (n : Node) (F : List Item) → parts_of (part_at in_part read B h) low high n ≡ Ok F → KeysOnly F → parts_of (part_at in_whole read B h) low high n ≡ Ok F
  node_back h ih low high n F e k =
      let below = part_at in_part read B h in let es = n.1 in
      let s = went_on (below low (next_bound high es) n.0) (λ P. go_on (rights_of below high es) (λ T. Ok (P ++ T))) F e in
      let t = went_on (rights_of below high es) (λ T. Ok (s.0 ++ T)) F s.2 in
      let last = t.2 in let is : F ≡ s.0 ++ t.0 = cc in
      let K : List Item → Type 0 = λ z. KeysOnly z in let all = subst K is k in
      rw (ih low (next_bound high es) n.0 s.0 s.1 (keys_front s.0 t.0 all), rests_back h ih high es t.0 t.1 (keys_back s.0 t.0 all)) t.2

  all_back : (h : ℕ) → PartsBack h
  unfolding part_at
  all_back zero low high c F e k = e
  all_back (suc h) low high None F e k = e
  all_back (suc h) low high (Some c) F e k = go (there_or_hole h c (λ b. block_of (node_fits h low high) (parts_of (part_at in_part read B h) low high) c (read b)) (map.get B c) F e) (all_back h)
    where
      go : ((map.get B c ≡ None) × (F ≡ Hole h c ∷ [])) ⊎ ((b : List ℕ) × (map.get B c ≡ Some b) × (block_of (node_fits h low high) (parts_of (part_at in_part read B h) low high) c (read b) ≡ Ok F)) → PartsBack h
          → part_at in_whole read B (suc h) low high (Some c) ≡ Ok F
      go (inl g) ih = let K : List Item → Type 0 = λ z. KeysOnly z in let bad = subst K g.1 k in absurd bad
      go (inr t) ih =
          let p = passed (node_fits h low high) (parts_of (part_at in_part read B h) low high) c (read t.0) F t.2 in
          at_link in_whole read B h low high c ∙ ap (or_missing in_whole h c (λ b. block_of (node_fits h low high) (parts_of (part_at in_whole read B h) low high) c (read b))) t.1 ∙ block_fit (node_fits h low high) (parts_of (part_at in_whole read B h) low high) c (read t.0) p.0 p.1 p.2 ∙ node_back h ih low high p.0 F p.3 k

  -- the top
  top_agree : (r b : List ℕ) (F : List Item) → top_of in_whole read B r b ≡ Ok F → (top_of in_part read B r b ≡ Ok F) × KeysOnly F
  top_agree r b F e =
      let p = passed top_fits (λ n. parts_of (part_at in_whole read B (layer_of n.1)) None None n) r (read b) F e in
      let n = node_agree (layer_of p.0.1) (all_agree (layer_of p.0.1)) None None p.0 F p.3 in
      (block_fit top_fits (λ n. parts_of (part_at in_part read B (layer_of n.1)) None None n) r (read b) p.0 p.1 p.2 ∙ n.0, n.1)

  top_back : (r b : List ℕ) (F : List Item) → top_of in_part read B r b ≡ Ok F → KeysOnly F → top_of in_whole read B r b ≡ Ok F
  top_back r b F e k =
      let p = passed top_fits (λ n. parts_of (part_at in_part read B (layer_of n.1)) None None n) r (read b) F e in
      block_fit top_fits (λ n. parts_of (part_at in_whole read B (layer_of n.1)) None None n) r (read b) p.0 p.1 p.2
      ∙ node_back (layer_of p.0.1) (all_back (layer_of p.0.1)) None None p.0 F p.3 k

-- what is read whole is a view without holes
pub whole_given : (B : FinMap key_cmp (List ℕ)) (r : List ℕ) (F : List Item) → AreUnderNodeLinks B → IsNodeLink r → whole_of node_of B r ≡ Ok F → HasKeys B r (length F)
whole_given B r F under kind e =
    let t = there_whole 0 r (top_of in_whole node_of B r) (map.get B r) F e in
    let a = top_agree node_of B r t.0 F t.2 in
    let w = (walk_given node_of node_of_is_reader.sound B under r t.0 F kind t.1 a.0).walk in (
      F,
      record {
        well_laid = record { formed = w.formed; ascends = w.ascends; holes_differ = no_holes_differ F a.1; neighbours = w.neighbours; no_lone_hole = w.no_lone_hole };
        root_is = w.root_is;
        there = w.there;
        holes = w.holes;
      },
      a.1,
      refl,
    )

-- a view without holes is read whole
pub whole_found : (B : FinMap key_cmp (List ℕ)) (r : List ℕ) (F : List Item) → IsView B r F → KeysOnly F → whole_of node_of B r ≡ Ok F
whole_found B r F v k =
    let w = walk_of B r F v in
    let there = root_there B r F w in
    let read = walk_found node_of node_of_is_reader B r there.0 F there.1 w in
    ap (or_missing in_whole 0 r (top_of in_whole node_of B r)) there.1 ∙ top_back node_of B r there.0 F read k
