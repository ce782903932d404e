-- What the reading gives is a view.
use Rattle.std.proofs.Common.{◌≡◌, ℕ, zero, suc, ◌<◌, ◌≤◌, eqb, true, ◌&&◌, List, [], ◌∷◌, ◌++◌, length, refl, sym, ap, ◌∙◌, subst, Option, Some, None, Ok, ◌⊎◌, inl, inr, arith}
use Rattle.std.specs.FinMap as map
use Rattle.std.specs.FinMap.{FinMap}
use Rattle.at_cid.specs.Link.{cid, IsNodeLink}
use Rattle.mst_list.specs.declared.item.Item.{Item}
use Rattle.mst_list.specs.declared.item.Item.TheVariants.{Key, Hole}
use Rattle.at_cid.specs.Order.{key_cmp}
use Rattle.mst_list.specs.Height.{height}
use Rattle.mst_list.specs.Lists.{AllAbove, Ascends, NoLoneHole}
use Rattle.at_cid.proofs.Order.{cmp_trans}
use Rattle.mst_list.proofs.Places.{AllBelow}
use Rattle.mst_list.proofs.Fills.{all_above_join, ascends_join, is_below_of, formed_join, IsBelow}
use Rattle.mst_node.specs.declared.entry.Entry.{Entry}
use Rattle.mst_node.specs.NodeBytes.{node_bytes}
use Rattle.mst_node.specs.Trees.{first_part, entries_at, part_link, encode_layer, right_nodes, part_nodes, nodes_at, top_layer, AllThere, IsWalk, KeysUnder, HolesUnder}
use Rattle.mst_node.specs.Covers.{IsOver, IsUnder, AreUnderNodeLinks}
use Rattle.mst_node.specs.Nodes.{IsChildLink, Node, IsSoundReader}
use Rattle.mst_node.specs.NodeFaults.{AreEntriesAt, next_bound, layer_of}
use Rattle.mst_node.proofs.Layers.{eqb_not, eqb_same, top_of_last}
use Rattle.mst_node.proofs.Encoding.{entry_of}
use Rattle.mst_node.proofs.Parts.{IsPart}
use Rattle.mst_node.proofs.Joins.{StartsAt, near_joined, lead_part, lead_joined, holes_joined, first_joined, rights_joined, there_joined, missing_joined, there_part}
use Rattle.mst_node.proofs.Layers.{top_under}
use Rattle.mst_node.proofs.Lies.{LiesIn, AllOver, AllUnder, over_of_above, linked}
use Rattle.mst_node.specs.FirstFault.{in_part}
use Rattle.mst_node.specs.Fits.{may_hang, is_some_node, may_top, node_fits, top_fits}
use Rattle.mst_node.specs.TreeReading.{go_on, block_of, or_missing, parts_of, rights_of, part_at, top_of}
use Rattle.mst_node.specs.Fits as fits
use Rattle.mst_node.proofs.Told.{both_true}
use Rattle.mst_node.proofs.Passes.{fit_true, hang_true, went_on, passed, there_or_hole}

-- lists that are put together
pub keys_joined : (m : ℕ) (A G : List Item) → KeysUnder m A → KeysUnder m G → KeysUnder m (A ++ G)
keys_joined m [] G a g = g
keys_joined m (Key k v ∷ A) G a g = (a.0, keys_joined m A G a.1 g)
keys_joined m (Hole l c ∷ A) G a g = keys_joined m A G a g

pub keys_up : (h m : ℕ) (A : List Item) → h ≤ m → KeysUnder h A → KeysUnder m A
keys_up h m [] e a = tt
keys_up h m (Key k v ∷ A) e a = (let low = a.0 in omega arith, keys_up h m A e a.1)
keys_up h m (Hole l c ∷ A) e a = keys_up h m A e a

over_joined : (low : Option (List ℕ)) (A G : List Item) → AllOver low A → AllOver low G → AllOver low (A ++ G)
over_joined low [] G a g = g
over_joined low (Key k v ∷ A) G a g = (a.0, over_joined low A G a.1 g)
over_joined low (Hole l c ∷ A) G a g = over_joined low A G a g

under_joined : (high : Option (List ℕ)) (A G : List Item) → AllUnder high A → AllUnder high G → AllUnder high (A ++ G)
under_joined high [] G a g = g
under_joined high (Key k v ∷ A) G a g = (a.0, under_joined high A G a.1 g)
under_joined high (Hole l c ∷ A) G a g = under_joined high A G a g

pub entries_joined : (link : List Item → Option (List ℕ)) (h : ℕ) (A G : List Item) → KeysUnder h A → entries_at link h (A ++ G) ≡ entries_at link h G
entries_joined link h [] G k = refl
entries_joined link h (Key j v ∷ A) G k = let low = k.0 in rw (eqb_not (height j) h (omega arith)) (entries_joined link h A G k.1)
entries_joined link h (Hole l c ∷ A) G k = entries_joined link h A G k

above_of_over : (k : List ℕ) (F : List Item) → AllOver (Some k) F → AllAbove k F
above_of_over k [] a = tt
above_of_over k (Key j v ∷ F) a = (a.0, above_of_over k F a.1)
above_of_over k (Hole l c ∷ F) a = above_of_over k F a

below_of_under : (k : List ℕ) (F : List Item) → AllUnder (Some k) F → AllBelow k F
below_of_under k [] a = tt
below_of_under k (Key j v ∷ F) a = (a.0, below_of_under k F a.1)
below_of_under k (Hole l c ∷ F) a = below_of_under k F a

over_more : (low : Option (List ℕ)) (k : List ℕ) (F : List Item) → IsOver low k → AllOver (Some k) F → AllOver low F
over_more low k [] o a = tt
over_more None k (Key j v ∷ F) o a = (tt, over_more None k F o a.1)
over_more (Some i) k (Key j v ∷ F) o a = (cmp_trans i k j o a.0, over_more (Some i) k F o a.1)
over_more low k (Hole l c ∷ F) o a = over_more low k F o a

under_more : (high : Option (List ℕ)) (k : List ℕ) (F : List Item) → IsUnder k high → AllUnder (Some k) F → AllUnder high F
under_more high k [] u a = tt
under_more None k (Key j v ∷ F) u a = (tt, under_more None k F u a.1)
under_more (Some i) k (Key j v ∷ F) u a = (cmp_trans j k i a.0 u, under_more (Some i) k F u a.1)
under_more high k (Hole l c ∷ F) u a = under_more high k F u a

under_next : (h : ℕ) (low high : Option (List ℕ)) (es : List Entry) (F : List Item) → AreEntriesAt h low high es → AllUnder (next_bound high es) F → AllUnder high F
under_next h low high [] F a u = u
under_next h low high (e ∷ es) F a u = under_more high e.key F a.0.under u

-- the list begins with the first entry's key
abbrev IsHeaded : List Entry → List Item → Type 0
IsHeaded [] G = G ≡ []
IsHeaded (e ∷ es) G = (T : List Item) × (G ≡ Key e.key e.value ∷ T)

below_join : (a : List Item) (k v : List ℕ) (b : List Item) → AllBelow k a → AllAbove k b → IsBelow a (Key k v ∷ b)
below_join [] k v b h g = tt
below_join (Key j w ∷ a) k v b h g = ((h.0, (is_below_of k (Key j w ∷ []) b (h.0, tt) g).0), below_join a k v b h.1 g)
below_join (Hole l c ∷ a) k v b h g = below_join a k v b h g

below_none : (a : List Item) → IsBelow a []
below_none [] = tt
below_none (Key j w ∷ a) = (tt, below_none a)
below_none (Hole l c ∷ a) = below_none a

below_headed : (high : Option (List ℕ)) (es : List Entry) (F G : List Item) → IsHeaded es G → Ascends G → AllUnder (next_bound high es) F → IsBelow F G
below_headed high [] F G is up under = let R : List Item → Type 0 = λ x. IsBelow F x in subst R (sym is) (below_none F)
below_headed high (e ∷ es) F G is up under =
    let R : List Item → Type 0 = λ x. IsBelow F x in let U : List Item → Type 0 = λ x. Ascends x in
    subst R (sym is.1) (below_join F e.key e.value is.0 (below_of_under e.key F under) (subst U is.1 up).0)

-- the link and the blocks of a part that isn't a hole at its layer
pub tree_link : (m : ℕ) (F : List Item) → HolesUnder m F → 0 < length F → part_link (suc m) F ≡ Some (cid (encode_layer m F))
unfolding part_link
tree_link m [] h n = absurd (omega arith)
tree_link m (Key k v ∷ F) h n = refl
tree_link m (Hole l c ∷ (x ∷ F)) h n = refl
tree_link m (Hole l c ∷ []) h n = let low = h.0 in rw (eqb_not l m (omega arith)) refl

no_link : (h : ℕ) (F : List Item) → length F ≡ 0 → part_link h F ≡ None
unfolding part_link
no_link zero F e = refl
no_link (suc h) [] e = refl
no_link (suc h) (x ∷ F) e = absurd (omega arith)

module _ (read : List ℕ → Option Node) (reader : IsSoundReader read) (B : FinMap key_cmp (List ℕ)) (under : AreUnderNodeLinks B) where
  -- what is said of a part under a link
  pub record IsFound (h : ℕ) (low high : Option (List ℕ)) (c : Option (List ℕ)) (P : List Item) : Type 0 where
    pub part : IsPart B h h P
    pub lies : LiesIn low high P
    pub there : AllThere B (part_nodes h P)
    pub link : part_link h P ≡ c

  abbrev PartsGiven : ℕ → Type 0
  PartsGiven h = (low high : Option (List ℕ)) (c : Option (List ℕ)) (P : List Item) → IsChildLink c → (h ≡ 0 → c ≡ None) → part_at in_part read B h low high c ≡ Ok P → IsFound h low high c P

  -- what is said of the list from the first entry on
  pub record IsFoundRest (h : ℕ) (low high : Option (List ℕ)) (es : List Entry) (G : List Item) : Type 0 where
    pub part : IsPart B (suc h) h G
    pub lies : LiesIn low high G
    pub there : AllThere B (right_nodes (part_nodes h) h G)
    pub entries : entries_at (part_link h) h G ≡ es
    pub starts : StartsAt h G
    pub headed : IsHeaded es G

  rests_given : (h : ℕ) → PartsGiven h → (low high : Option (List ℕ)) (es : List Entry) (G : List Item) → AreEntriesAt h low high es → rights_of (part_at in_part read B h) high es ≡ Ok G → IsFoundRest h low high es G
  rests_given h ih low high [] G a e =
      let is : G ≡ [] = cc in let R : List Item → Type 0 = λ x. IsFoundRest h low high [] x in
      subst R (sym is) (record { part = record { keys = tt; holes = tt; near = tt; formed = tt; missing = tt }; lies = record { ascends = tt; over = tt; under = tt }; there = tt; entries = refl; starts = tt; headed = refl })
  rests_given h ih low high (x ∷ es) G a e =
      let below = part_at in_part read B h in
      let s = went_on (below (Some x.key) (next_bound high es) x.right) (λ P. go_on (rights_of below high es) (λ T. Ok (Key x.key x.value ∷ (P ++ T)))) G e in
      let t = went_on (rights_of below high es) (λ T. Ok (Key x.key x.value ∷ (s.0 ++ T))) G s.2 in
      let P = s.0 in let T = t.0 in
      let p = ih (Some x.key) (next_bound high es) x.right P a.0.right a.0.lowest s.1 in
      let r = rests_given h ih (Some x.key) high es T a.1 t.1 in
      let is : G ≡ Key x.key x.value ∷ (P ++ T) = let last = t.2 in cc in
      let on : eqb (height x.key) h ≡ true = rw a.0.at (eqb_same h) in
      let above : AllAbove x.key (P ++ T) = all_above_join x.key P T (above_of_over x.key P p.lies.over) (above_of_over x.key T r.lies.over) in
      let first : first_part h (P ++ T) ≡ P = first_joined h P T p.part.keys r.starts in
      let R : List Item → Type 0 = λ z. IsFoundRest h low high (x ∷ es) z in
      subst R (sym is) (record {
        part = record {
          keys = (let at = a.0.at in omega arith, keys_joined (suc h) P T (keys_up h (suc h) P (omega arith) p.part.keys) r.part.keys);
          holes = holes_joined h P T p.part.holes r.part.holes;
          near = (lead_joined x.key x.value h P T (lead_part h x.key x.value P a.0.at p.part.holes) r.starts, near_joined h P T p.part.near p.part.holes r.starts r.part.near);
          formed = ((a.0.key, a.0.value), formed_join P T p.part.formed r.part.formed);
          missing = missing_joined B P T p.part.missing r.part.missing;
        };
        lies = record {
          ascends = (above, ascends_join P T p.lies.ascends (below_headed high es P T r.headed r.lies.ascends p.lies.under) r.lies.ascends);
          over = (a.0.over, over_more low x.key (P ++ T) a.0.over (over_of_above x.key (P ++ T) above));
          under = (a.0.under, under_joined high P T (under_next h (Some x.key) high es P a.1 p.lies.under) r.lies.under);
        };
        there = let W : List (List ℕ) → Type 0 = λ z. AllThere B z in let Q : List Item → Type 0 = λ z. AllThere B (part_nodes h z) in
            let both : AllThere B (part_nodes h (first_part h (P ++ T)) ++ right_nodes (part_nodes h) h (P ++ T)) = there_joined B (part_nodes h (first_part h (P ++ T))) (right_nodes (part_nodes h) h (P ++ T)) (subst Q (sym first) p.there) (subst W (sym (rights_joined (part_nodes h) h P T p.part.keys)) r.there) in
            rw on both;
        entries = rw on (ap (λ l. entry_of x.key x.value l ∷ entries_at (part_link h) h (P ++ T)) (ap (part_link h) first ∙ p.link)
            ∙ ap (λ z. entry_of x.key x.value x.right ∷ z) (entries_joined (part_link h) h P T p.part.keys ∙ r.entries));
        starts = a.0.at;
        headed = (P ++ T, refl);
      })

  -- what is said of what a node holds
  pub record IsFoundNode (h : ℕ) (low high : Option (List ℕ)) (n : Node) (F : List Item) : Type 0 where
    pub part : IsPart B (suc h) h F
    pub lies : LiesIn low high F
    pub there : AllThere B (part_nodes h (first_part h F) ++ right_nodes (part_nodes h) h F)
    pub left : part_link h (first_part h F) ≡ n.0
    pub entries : entries_at (part_link h) h F ≡ n.1
    pub first : List Item
    pub rest : List Item
    pub is : F ≡ first ++ rest
    pub first_link : part_link h first ≡ n.0
    pub first_keys : KeysUnder h first
    pub first_holes : HolesUnder h first
    pub headed : IsHeaded n.1 rest

  node_given : (h : ℕ) → PartsGiven h → (low high : Option (List ℕ)) (n : Node) (F : List Item) → IsChildLink n.0 → (h ≡ 0 → n.0 ≡ None) → AreEntriesAt h low high n.1 → parts_of (part_at in_part read B h) low high n ≡ Ok F → IsFoundNode h low high n F
  node_given h ih low high n F kind lowest a e =
      let below = part_at in_part read B h in let es = n.1 in
      let s = went_on (below low (next_bound high es) n.0) (λ P. go_on (rights_of below high es) (λ T. Ok (P ++ T))) F e in
      let t = went_on (rights_of below high es) (λ T. Ok (s.0 ++ T)) F s.2 in
      let P = s.0 in let T = t.0 in
      let p = ih low (next_bound high es) n.0 P kind lowest s.1 in
      let r = rests_given h ih low high es T a t.1 in
      let is : F ≡ P ++ T = let last = t.2 in cc in
      let first : first_part h (P ++ T) ≡ P = first_joined h P T p.part.keys r.starts in
      let R : List Item → Type 0 = λ z. IsFoundNode h low high n z in
      subst R (sym is) (record {
        part = record {
          keys = keys_joined (suc h) P T (keys_up h (suc h) P (omega arith) p.part.keys) r.part.keys;
          holes = holes_joined h P T p.part.holes r.part.holes;
          near = near_joined h P T p.part.near p.part.holes r.starts r.part.near;
          formed = formed_join P T p.part.formed r.part.formed;
          missing = missing_joined B P T p.part.missing r.part.missing;
        };
        lies = record {
          ascends = ascends_join P T p.lies.ascends (below_headed high es P T r.headed r.lies.ascends p.lies.under) r.lies.ascends;
          over = over_joined low P T p.lies.over r.lies.over;
          under = under_joined high P T (under_next h low high es P a p.lies.under) r.lies.under;
        };
        there = let W : List (List ℕ) → Type 0 = λ z. AllThere B z in let Q : List Item → Type 0 = λ z. AllThere B (part_nodes h z) in
            there_joined B (part_nodes h (first_part h (P ++ T))) (right_nodes (part_nodes h) h (P ++ T)) (subst Q (sym first) p.there) (subst W (sym (rights_joined (part_nodes h) h P T p.part.keys)) r.there);
        left = ap (part_link h) first ∙ p.link;
        entries = entries_joined (part_link h) h P T p.part.keys ∙ r.entries;
        first = P;
        rest = T;
        is = refl;
        first_link = p.link;
        first_keys = p.part.keys;
        first_holes = p.part.holes;
        headed = r.headed;
      })

  -- a node that passes has something in it
  some_length : (h : ℕ) (n : Node) (first rest : List Item) → is_some_node n ≡ true → part_link h first ≡ n.0 → IsHeaded n.1 rest → 0 < length (first ++ rest)
  some_length h n (x ∷ first) rest s l k = omega arith
  some_length h (None, []) [] rest s l k = absurd (cc)
  some_length h (Some c, es) [] rest s l k = let none = no_link h [] refl in absurd (cc)
  some_length h (None, e ∷ es) [] rest s l k = let R : List Item → Type 0 = λ z. 0 < length z in subst R (sym k.1) (omega arith)

  block_given : (h : ℕ) → PartsGiven h → (low high : Option (List ℕ)) (c b : List ℕ) (F : List Item) → IsNodeLink c → map.get B c ≡ Some b
      → block_of (node_fits h low high) (parts_of (part_at in_part read B h) low high) c (read b) ≡ Ok F → IsFound (suc h) low high (Some c) F
  block_given h ih low high c b F kind at e =
      let s = passed (node_fits h low high) (parts_of (part_at in_part read B h) low high) c (read b) F e in
      let n = s.0 in
      let g = reader.gives b n s.1 in
      let t = both_true (may_hang h n.0 && is_some_node n) (fits.entries_fit h low high n.1) s.2 in
      let u = both_true (may_hang h n.0) (is_some_node n) t.0 in
      let f = node_given h ih low high n F g.1 (hang_true h n.0 u.0) (fit_true h low high n.1 g.2 t.1) s.3 in
      let long : 0 < length F = let R : List Item → Type 0 = λ z. 0 < length z in subst R (sym f.is) (some_length h n f.first f.rest u.1 f.first_link f.headed) in
      let encoded : encode_layer h F ≡ b = ap (λ l. node_bytes l (entries_at (part_link h) h F)) f.left ∙ ap (node_bytes n.0) f.entries ∙ sym g.0 in
      let link : c ≡ cid (encode_layer h F) = under c b kind at ∙ ap cid (sym encoded) in
      let there : map.get B (cid (encode_layer h F)) ≡ Some (encode_layer h F) = ap (map.get B) (sym link) ∙ at ∙ ap Some (sym encoded) in
      record {
        part = record { keys = f.part.keys; holes = holes_up h F f.part.holes; near = f.part.near; formed = f.part.formed; missing = f.part.missing };
        lies = f.lies;
        there = there_part B h F (there, f.there);
        link = tree_link h F f.part.holes long ∙ ap Some (sym link);
      }
    where
      holes_up : (h : ℕ) (A : List Item) → HolesUnder h A → HolesUnder (suc h) A
      holes_up h [] a = tt
      holes_up h (Key k v ∷ A) a = holes_up h A a
      holes_up h (Hole l c ∷ A) a = (let low = a.0 in omega arith, holes_up h A a.1)

  hole_given : (h : ℕ) (low high : Option (List ℕ)) (c : List ℕ) → IsNodeLink c → map.get B c ≡ None → IsFound (suc h) low high (Some c) (Hole h c ∷ [])
  unfolding part_link part_nodes
  hole_given h low high c kind gone =
      let on = eqb_same h in
      record {
        part = record { keys = tt; holes = (omega arith, tt); near = (tt, tt); formed = (kind, tt); missing = (gone, tt) };
        lies = record { ascends = tt; over = tt; under = tt };
        there = rw on tt;
        link = rw on refl;
      }

  nothing_given : (h : ℕ) (low high : Option (List ℕ)) → IsFound h low high None []
  unfolding part_link part_nodes
  nothing_given zero low high = record { part = record { keys = tt; holes = tt; near = tt; formed = tt; missing = tt }; lies = record { ascends = tt; over = tt; under = tt }; there = tt; link = refl }
  nothing_given (suc h) low high = record { part = record { keys = tt; holes = tt; near = tt; formed = tt; missing = tt }; lies = record { ascends = tt; over = tt; under = tt }; there = tt; link = refl }

  at_zero : (low high : Option (List ℕ)) (c : Option (List ℕ)) (P : List Item) → part_at in_part read B zero low high c ≡ Ok P → P ≡ []
  unfolding part_at
  at_zero low high c P e = cc

  at_none : (h : ℕ) (low high : Option (List ℕ)) (P : List Item) → part_at in_part read B (suc h) low high None ≡ Ok P → P ≡ []
  unfolding part_at
  at_none h low high P e = cc

  at_some : (h : ℕ) (low high : Option (List ℕ)) (c : List ℕ) (P : List Item) → part_at in_part read B (suc h) low high (Some c) ≡ Ok P
      → or_missing in_part h c (λ b. block_of (node_fits h low high) (parts_of (part_at in_part read B h) low high) c (read b)) (map.get B c) ≡ Ok P
  unfolding part_at
  at_some h low high c P e = e

  pub all_given : (h : ℕ) → PartsGiven h
  all_given zero low high None P kind lowest e = let R : List Item → Type 0 = λ z. IsFound zero low high None z in subst R (sym (at_zero low high None P e)) (nothing_given zero low high)
  all_given zero low high (Some c) P kind lowest e = let bad = lowest refl in absurd (cc)
  all_given (suc h) low high None P kind lowest e = let R : List Item → Type 0 = λ z. IsFound (suc h) low high None z in subst R (sym (at_none h low high P e)) (nothing_given (suc h) low high)
  all_given (suc h) low high (Some c) P kind lowest e = go (there_or_hole h c (λ b. block_of (node_fits h low high) (parts_of (part_at in_part read B h) low high) c (read b)) (map.get B c) P (at_some h low high c P e)) (λ b at g. block_given h (all_given h) low high c b P kind at g)
    where
      go : ((map.get B c ≡ None) × (P ≡ Hole h c ∷ [])) ⊎ ((b : List ℕ) × (map.get B c ≡ Some b) × (block_of (node_fits h low high) (parts_of (part_at in_part read B h) low high) c (read b) ≡ Ok P))
          → ((b : List ℕ) → map.get B c ≡ Some b → block_of (node_fits h low high) (parts_of (part_at in_part read B h) low high) c (read b) ≡ Ok P → IsFound (suc h) low high (Some c) P)
          → IsFound (suc h) low high (Some c) P
      go (inl g) more = let R : List Item → Type 0 = λ z. IsFound (suc h) low high (Some c) z in subst R (sym g.1) (hole_given h low high c kind g.0)
      go (inr g) more = more g.0 g.1 g.2

  -- the top
  top_is : (es : List Entry) (first rest : List Item) → AreEntriesAt (layer_of es) None None es → IsHeaded es rest → KeysUnder (suc (layer_of es)) (first ++ rest) → (es ≡ [] → first ≡ []) → top_layer (first ++ rest) ≡ layer_of es
  top_is [] first rest a k keys none = let R : List Item → Type 0 = λ z. top_layer z ≡ 0 in let f = none refl in subst R (sym (ap (λ z. z ++ rest) f ∙ k)) refl
  top_is (e ∷ es) first rest a k keys none =
      let low = top_under (first ++ rest) (suc (height e.key)) keys (omega arith) in
      let last = top_of_last first rest in
      let R : List Item → Type 0 = λ z. height e.key ≤ top_layer z in
      let high : height e.key ≤ top_layer rest = subst R (sym k.1) (omega arith) in
      omega arith

  lone : (es : List Entry) (first rest : List Item) → IsHeaded es rest → (es ≡ [] → first ≡ []) → NoLoneHole (first ++ rest)
  lone [] first rest k none = let R : List Item → Type 0 = λ z. NoLoneHole z in subst R (sym (ap (λ z. z ++ rest) (none refl) ∙ k)) tt
  lone (e ∷ es) first rest k none = let R : List Item → Type 0 = λ z. NoLoneHole (first ++ z) in subst R (sym k.1) (go first)
    where
      go : (A : List Item) → NoLoneHole (A ++ (Key e.key e.value ∷ k.0))
      go [] = tt
      go (Key j w ∷ A) = tt
      go (Hole l c ∷ []) = tt
      go (Hole l c ∷ (x ∷ A)) = tt

  no_first : (h : ℕ) (n : Node) (first : List Item) → may_top n ≡ true → KeysUnder h first → HolesUnder h first → part_link h first ≡ n.0 → n.1 ≡ [] → first ≡ []
  no_first h (Some c, []) first m k o l z = absurd (cc)
  no_first h (n, e ∷ es) first m k o l z = absurd (cc)
  no_first h (None, []) [] m k o l z = refl
  no_first h (None, []) (x ∷ first) m k o l z = absurd (linked h x first k o l)

  -- what is read is a view, but for the links of its holes, and of it the node at the top
  pub record IsGiven (r b : List ℕ) (F : List Item) : Type 0 where
    pub walk : IsWalk B r F
    pub node : Node
    pub reads : read b ≡ Some node
    pub layer : top_layer F ≡ layer_of node.1

  pub walk_given : (r b : List ℕ) (G : List Item) → IsNodeLink r → map.get B r ≡ Some b → top_of in_part read B r b ≡ Ok G → IsGiven r b G
  walk_given r b G kind at e =
      let s = passed top_fits (λ n. parts_of (part_at in_part read B (layer_of n.1)) None None n) r (read b) G e in
      let n = s.0 in let h = layer_of n.1 in
      let g = reader.gives b n s.1 in
      let t = both_true (may_hang h n.0 && may_top n) (fits.entries_fit h None None n.1) s.2 in
      let u = both_true (may_hang h n.0) (may_top n) t.0 in
      let fit = fit_true h None None n.1 g.2 t.1 in
      let f = node_given h (all_given h) None None n G g.1 (hang_true h n.0 u.0) fit s.3 in
      let encoded : encode_layer h G ≡ b = ap (λ l. node_bytes l (entries_at (part_link h) h G)) f.left ∙ ap (node_bytes n.0) f.entries ∙ sym g.0 in
      let link : r ≡ cid (encode_layer h G) = under r b kind at ∙ ap cid (sym encoded) in
      let there : map.get B (cid (encode_layer h G)) ≡ Some (encode_layer h G) = ap (map.get B) (sym link) ∙ at ∙ ap Some (sym encoded) in
      let none : n.1 ≡ [] → f.first ≡ [] = no_first h n f.first u.1 f.first_keys f.first_holes f.first_link in
      let K : List Item → Type 0 = λ z. KeysUnder (suc h) z in
      let layer : top_layer G ≡ h = ap top_layer f.is ∙ top_is n.1 f.first f.rest fit f.headed (subst K f.is f.part.keys) none in
      let L : List Item → Type 0 = λ z. NoLoneHole z in let N : ℕ → Type 0 = λ m. AllThere B (nodes_at m G) in
      record {
        node = n;
        reads = s.1;
        layer = layer;
        walk = record {
          formed = f.part.formed;
          ascends = f.lies.ascends;
          neighbours = f.part.near;
          no_lone_hole = subst L (sym f.is) (lone n.1 f.first f.rest f.headed none);
          root_is = ap (λ m. cid (encode_layer m G)) layer ∙ sym link;
          there = subst N (sym layer) (there, f.there);
          holes = f.part.missing;
        };
      }
