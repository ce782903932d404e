-- A view is what the reading gives.
use Rattle.std.proofs.Common.{◌≡◌, ◌≢◌, ℕ, zero, suc, eqb, cond, true, false, List, [], ◌∷◌, ◌++◌, refl, sym, ap, ◌∙◌, Option, Some, None, Ok, ◌⊎◌, inl, inr, arith}
use Rattle.std.specs.FinMap as map
use Rattle.std.specs.FinMap.{FinMap}
use Rattle.at_cid.specs.Link.{cid}
use Rattle.mst_list.specs.declared.item.Item.{Item}
use Rattle.mst_list.specs.declared.item.Item.TheVariants.{Key, Hole}
use Rattle.at_cid.specs.Order.{key_cmp}
use Rattle.mst_list.specs.Height.{height}
use Rattle.mst_list.specs.Lists.{AreFormed}
use Rattle.mst_node.specs.declared.entry.Entry.{Entry}
use Rattle.mst_node.specs.Trees.{first_part, entries_at, part_link, encode_layer, right_nodes, part_nodes, nodes_at, top_layer, AllThere, IsView, IsWalk}
use Rattle.mst_node.specs.Nodes.{Node, IsReader}
use Rattle.mst_node.specs.NodeFaults.{next_bound, layer_of}
use Rattle.mst_node.proofs.Layers.{keys_under_top, holes_within}
use Rattle.mst_node.proofs.Links.{first_formed, link_formed}
use Rattle.mst_node.proofs.Parts.{IsPart, IsHolePart, IsNodePart, kind_of, first_part_of, there_first, there_last}
use Rattle.mst_node.proofs.Joins.{rest_part, two_parts}
use Rattle.mst_node.proofs.Tops.{has_top}
use Rattle.mst_node.proofs.Lies.{LiesIn, no_lower, entries_fit, first_lies, not_empty, all_under_end, all_over_end, over_of_above}
use Rattle.mst_node.specs.FirstFault.{in_part}
use Rattle.mst_node.specs.Fits.{may_hang, is_some_node, may_top, node_fits, top_fits}
use Rattle.mst_node.specs.TreeReading.{block_of, parts_of, rights_of, part_at, top_of}
use Rattle.mst_node.specs.Fits as fits
use Rattle.mst_node.proofs.Steps.{at_zero}
use Rattle.mst_node.proofs.Passes.{true_fit, true_hang, formed_of, ascend_of, over_none}

pub walk_of : (B : FinMap key_cmp (List ℕ)) (r : List ℕ) (F : List Item) → IsView B r F → IsWalk B r F
walk_of B r F v =
    record { formed = v.well_laid.formed; ascends = v.well_laid.ascends; neighbours = v.well_laid.neighbours; no_lone_hole = v.well_laid.no_lone_hole; root_is = v.root_is; there = v.there; holes = v.holes }

-- the block under the root of a walk is there
pub root_there : (B : FinMap key_cmp (List ℕ)) (r : List ℕ) (F : List Item) → IsWalk B r F → (b : List ℕ) × (map.get B r ≡ Some b)
root_there B r F w = (encode_layer (top_layer F) F, sym (ap (map.get B) w.root_is) ∙ w.there.0)

module _ (read : List ℕ → Option Node) (reader : IsReader read) (B : FinMap key_cmp (List ℕ)) where
  abbrev PartsFound : ℕ → Type 0
  PartsFound h = (low high : Option (List ℕ)) (P : List Item) → IsPart B h h P → LiesIn low high P → AllThere B (part_nodes h P) → part_at in_part read B h low high (part_link h P) ≡ Ok P

  rights_found : (h : ℕ) → PartsFound h → (low high : Option (List ℕ)) (P : List Item) → IsPart B (suc h) h P → LiesIn low high P → AllThere B (right_nodes (part_nodes h) h P)
      → rights_of (part_at in_part read B h) high (entries_at (part_link h) h P) ≡ Ok (rest_part h P)
  rights_found h ih low high [] p l t = refl
  rights_found h ih low high (Hole m c ∷ P) p l t =
      rights_found h ih low high P (record { keys = p.keys; holes = p.holes.1; near = p.near.1; formed = p.formed.1; missing = p.missing.1 }) (record { ascends = l.ascends; over = l.over; under = l.under }) t
  rights_found h ih low high (Key k v ∷ P) p l t =
      let p' : IsPart B (suc h) h P = record { keys = p.keys.1; holes = p.holes; near = p.near.1; formed = p.formed.1; missing = p.missing } in
      let X = part_nodes h (first_part h P) in let Y = right_nodes (part_nodes h) h P in let below = part_at in_part read B h in let es = entries_at (part_link h) h P in
      elim (eqb (height k) h) as (λ b. AllThere B (cond b (X ++ Y) Y) → rights_of below high (cond b (record { key = k; value = v; right = part_link h (first_part h P) } ∷ es) es) ≡ Ok (cond b (Key k v ∷ P) (rest_part h P))) [
        | true ↦ λ t.
            let l' : LiesIn (Some k) high P = record { ascends = l.ascends.1; over = over_of_above k P l.ascends.0; under = l.under.1 } in
            let one : below (Some k) (next_bound high es) (part_link h (first_part h P)) ≡ Ok (first_part h P) = ih (Some k) (next_bound high es) (first_part h P) (first_part_of B h P p') (first_lies h (Some k) high P l') (there_first B X Y t) in
            let two : rights_of below high es ≡ Ok (rest_part h P) = rights_found h ih (Some k) high P p' l' (there_last B X Y t) in
            rw (one, two) (ap (λ G. Ok (Key k v ∷ G)) (two_parts h P))
        | false ↦ λ t. rights_found h ih low high P p' (record { ascends = l.ascends.1; over = l.over.1; under = l.under.1 }) t
      ] t

  parts_found : (h : ℕ) → PartsFound h → (low high : Option (List ℕ)) (P : List Item) → IsPart B (suc h) h P → LiesIn low high P → AllThere B (part_nodes h (first_part h P)) → AllThere B (right_nodes (part_nodes h) h P)
      → parts_of (part_at in_part read B h) low high (part_link h (first_part h P), entries_at (part_link h) h P) ≡ Ok P
  parts_found h ih low high P p l t u =
      let below = part_at in_part read B h in let es = entries_at (part_link h) h P in
      let one : below low (next_bound high es) (part_link h (first_part h P)) ≡ Ok (first_part h P) = ih low (next_bound high es) (first_part h P) (first_part_of B h P p) (first_lies h low high P l) t in
      let two : rights_of below high es ≡ Ok (rest_part h P) = rights_found h ih low high P p l u in
      rw (one, two) (ap Ok (two_parts h P))

  -- the block of a part reads as the part's node
  node_read : (h : ℕ) (low high : Option (List ℕ)) (P : List Item) → AreFormed P → LiesIn low high P → read (encode_layer h P) ≡ Some (part_link h (first_part h P), entries_at (part_link h) h P)
  node_read h low high P f l =
      let a = entries_fit h low high P f l in let es = entries_at (part_link h) h P in
      reader.reads (part_link h (first_part h P)) es (link_formed h (first_part h P) (first_formed h P f)) (formed_of h low high es a) (over_none low es (ascend_of h low high es a))

  pub some_node : (left : Option (List ℕ)) (es : List Entry) → (left ≡ None → es ≢ []) → is_some_node (left, es) ≡ true
  some_node None [] f = absurd (f refl refl)
  some_node None (e ∷ es) f = refl
  some_node (Some c) es f = refl

  node_found : (h : ℕ) → PartsFound h → (low high : Option (List ℕ)) (x : Item) (P : List Item) (c : List ℕ) → IsPart B (suc h) h (x ∷ P) → LiesIn low high (x ∷ P) → AllThere B (nodes_at h (x ∷ P))
      → block_of (node_fits h low high) (parts_of (part_at in_part read B h) low high) c (read (encode_layer h (x ∷ P))) ≡ Ok (x ∷ P)
  node_found h ih low high x P c p l t =
      let es = entries_at (part_link h) h (x ∷ P) in let left = part_link h (first_part h (x ∷ P)) in
      let X = part_nodes h (first_part h (x ∷ P)) in let Y = right_nodes (part_nodes h) h (x ∷ P) in
      let hang : may_hang h left ≡ true = true_hang h left (no_lower h (first_part h (x ∷ P))) in
      let some : is_some_node (left, es) ≡ true = some_node left es (not_empty h x P p.keys p.holes) in
      let fit : fits.entries_fit h low high es ≡ true = true_fit h low high es (entries_fit h low high (x ∷ P) p.formed l) in
      rw (node_read h low high (x ∷ P) p.formed l, hang, some, fit) (parts_found h ih low high (x ∷ P) p l (there_first B X Y t.1) (there_last B X Y t.1))

  nothing_found : (h : ℕ) (low high : Option (List ℕ)) → part_at in_part read B (suc h) low high (part_link (suc h) []) ≡ Ok []
  unfolding part_at part_link
  nothing_found h low high = refl

  hole_found : (h : ℕ) (low high : Option (List ℕ)) (c : List ℕ) → map.get B c ≡ None → part_at in_part read B (suc h) low high (Some c) ≡ Ok (Hole h c ∷ [])
  unfolding part_at
  hole_found h low high c e = rw e refl

  block_found : (h : ℕ) (low high : Option (List ℕ)) (c b : List ℕ) (F : List Item) → map.get B c ≡ Some b → block_of (node_fits h low high) (parts_of (part_at in_part read B h) low high) c (read b) ≡ Ok F → part_at in_part read B (suc h) low high (Some c) ≡ Ok F
  unfolding part_at
  block_found h low high c b F e g = rw e g

  pub all_found : (h : ℕ) → PartsFound h
  all_found zero low high [] p l t = at_zero in_part read B low high (part_link zero [])
  all_found zero low high (Key k v ∷ P) p l t = let low = p.keys.0 in absurd (omega arith)
  all_found zero low high (Hole m c ∷ P) p l t = let low = p.holes.0 in absurd (omega arith)
  all_found (suc h) low high [] p l t = nothing_found h low high
  all_found (suc h) low high (x ∷ P) p l t = go (kind_of B h x P p t) (λ c q u. node_found h (all_found h) low high x P c q l u)
    where
      go : IsHolePart B h (x ∷ P) ⊎ IsNodePart B h (x ∷ P)
          → ((c : List ℕ) → IsPart B (suc h) h (x ∷ P) → AllThere B (nodes_at h (x ∷ P)) → block_of (node_fits h low high) (parts_of (part_at in_part read B h) low high) c (read (encode_layer h (x ∷ P))) ≡ Ok (x ∷ P))
          → part_at in_part read B (suc h) low high (part_link (suc h) (x ∷ P)) ≡ Ok (x ∷ P)
      go (inl k) more = ap (part_at in_part read B (suc h) low high) k.part_is ∙ hole_found h low high k.link k.missing ∙ ap Ok (sym k.is)
      go (inr k) more =
          let c = cid (encode_layer h (x ∷ P)) in
          ap (part_at in_part read B (suc h) low high) k.link ∙ block_found h low high c (encode_layer h (x ∷ P)) (x ∷ P) k.there.0 (more c k.part k.there)

  pub may_top_of : (left : Option (List ℕ)) (es : List Entry) → (es ≡ [] → left ≡ None) → may_top (left, es) ≡ true
  may_top_of None es f = refl
  may_top_of (Some c) [] f = let bad = f refl in absurd (cc)
  may_top_of (Some c) (e ∷ es) f = refl

  -- the top node of a walk
  pub walk_node : (r : List ℕ) (F : List Item) → IsWalk B r F → let es = entries_at (part_link (top_layer F)) (top_layer F) F in (layer_of es ≡ top_layer F) × (es ≡ [] → part_link (top_layer F) (first_part (top_layer F) F) ≡ None)
  unfolding part_link
  walk_node r [] w = (refl, λ e. refl)
  walk_node r (x ∷ F) w =
      let t = has_top x F w.neighbours w.no_lone_hole in let is = t.entries (part_link (top_layer (x ∷ F))) in
      (ap layer_of is ∙ t.height_is, λ e. absurd (cc))

  pub walk_found : (r b : List ℕ) (F : List Item) → map.get B r ≡ Some b → IsWalk B r F → top_of in_part read B r b ≡ Ok F
  walk_found r b F at v =
      let h = top_layer F in let left = part_link h (first_part h F) in let es = entries_at (part_link h) h F in
      let lies : LiesIn None None F = record { ascends = v.ascends; over = all_over_end F; under = all_under_end F } in
      let keys = keys_under_top F h (omega arith) in
      let part : IsPart B (suc h) h F = record { keys = keys; holes = holes_within h F keys v.neighbours v.no_lone_hole; near = v.neighbours; formed = v.formed; missing = v.holes } in
      let block : b ≡ encode_layer h F = let is = v.there.0 in let same = ap (map.get B) v.root_is in cc in
      let layer : layer_of es ≡ h = (walk_node r F v).0 in
      let X = part_nodes h (first_part h F) in let Y = right_nodes (part_nodes h) h F in
      let hang : may_hang h left ≡ true = true_hang h left (no_lower h (first_part h F)) in
      let top : may_top (left, es) ≡ true = may_top_of left es (walk_node r F v).1 in
      let fit : fits.entries_fit h None None es ≡ true = true_fit h None None es (entries_fit h None None F v.formed lies) in
      let parts : parts_of (part_at in_part read B h) None None (left, es) ≡ Ok F = parts_found h (all_found h) None None F part lies (there_first B X Y v.there.1) (there_last B X Y v.there.1) in
      let known : read b ≡ Some (left, es) = ap read block ∙ node_read h None None F v.formed lies in
      rw (known, layer, hang, top, fit, parts) refl

  -- one list alone is a walk
  pub walk_once : (r : List ℕ) (F G : List Item) → IsWalk B r F → IsWalk B r G → F ≡ G
  walk_once r F G v w =
      let there = root_there B r F v in
      let one = walk_found r there.0 F there.1 v in
      let other = walk_found r there.0 G there.1 w in cc
