-- A map with the root of a well-laid list fills it, where no two different blocks of both share a digest.
use Rattle.std.proofs.Common.{◌≡◌, ℕ, suc, List, [], ◌∷◌, ◌++◌, refl, sym, ap, ◌∙◌, subst, inl, arith}
use Rattle.at_cid.specs.Link.{cid}
use Rattle.mst_list.specs.Edits.{Filled}
use Rattle.mst_list.specs.Height.{height}
use Rattle.mst_list.specs.Lists.{AreFormed, IsMap, IsWellLaid, KeysOnly, NoLoneHole}
use Rattle.mst_list.specs.declared.item.Item.{Item}
use Rattle.mst_list.specs.declared.item.Item.TheVariants.{Hole, Key}
use Rattle.mst_node.specs.Trees.{Distinct, HoldsNode, KeysUnder, entries_at, first_part, nodes, nodes_at, part_link, root, encode_layer, top_layer}
use Rattle.mst_node.specs.declared.entry.Entry.{Entry}
use Rattle.mst_node.proofs.Layers.{holes_within, keys_under_top, map_near}
use Rattle.mst_node.proofs.Links.{cid_same, entries_formed, first_formed, link_formed}
use Rattle.mst_node.proofs.Encoding.{entry_of, node_same}
use Rattle.mst_node.proofs.Telling.{IsWithin, among_first, among_last, links_tell, node_told}
use Rattle.mst_node.proofs.Tops.{has_top}

map_lone : (x : Item) (s : List Item) → KeysOnly (x ∷ s) → NoLoneHole (x ∷ s)
map_lone (Key j v) s k = tt
map_lone (Hole l c) s k = absurd k

-- the top entries of two lists whose top blocks are one
entries_told : (U s : List Item) → AreFormed U → AreFormed s → encode_layer (top_layer s) s ≡ encode_layer (top_layer U) U
    → entries_at (part_link (top_layer s)) (top_layer s) s ≡ entries_at (part_link (top_layer U)) (top_layer U) U
entries_told U s fu fs e =
    let h = top_layer U in let n = top_layer s in
    (node_same (part_link n (first_part n s)) (part_link h (first_part h U)) (entries_at (part_link n) n s) (entries_at (part_link h) h U)
    (link_formed n (first_part n s) (first_formed n s fs)) (link_formed h (first_part h U) (first_formed h U fu)) (entries_formed n n s fs) (entries_formed h h U fu) e).1

pub filling_law : (U s : List Item) → IsWellLaid U → IsMap s → root s ≡ root U → Distinct (nodes s ++ nodes U) → Filled HoldsNode U s
filling_law U s w m e distinct = go U s w m e distinct (distinct (encode_layer (top_layer s) s) (encode_layer (top_layer U) U) (among_first (encode_layer (top_layer s) s) (nodes s) (nodes U) (inl refl)) (among_last (encode_layer (top_layer U) U) (nodes s) (nodes U) (inl refl)) (cid_same (encode_layer (top_layer s) s) (encode_layer (top_layer U) U) e))
  where
    go : (U s : List Item) → IsWellLaid U → IsMap s → root s ≡ root U → Distinct (nodes s ++ nodes U) → encode_layer (top_layer s) s ≡ encode_layer (top_layer U) U → Filled HoldsNode U s
    go [] [] w m e distinct block = refl
    go [] (x ∷ s) w m e distinct block =
        let told = entries_told [] (x ∷ s) tt m.formed block in
        let a = (has_top x s (map_near (x ∷ s) m.keys_only) (map_lone x s m.keys_only)).entries (part_link (top_layer (x ∷ s))) in absurd (cc)
    go (x ∷ U) [] w m e distinct block =
        let told = entries_told (x ∷ U) [] w.formed tt block in
        let a = (has_top x U w.neighbours w.no_lone_hole).entries (part_link (top_layer (x ∷ U))) in absurd (cc)
    go (x ∷ U) (y ∷ s) w m e distinct block =
        let told = entries_told (x ∷ U) (y ∷ s) w.formed m.formed block in
        let a = has_top x U w.neighbours w.no_lone_hole in
        let b = has_top y s (map_near (y ∷ s) m.keys_only) (map_lone y s m.keys_only) in
        let ea = a.entries (part_link (top_layer (x ∷ U))) in let eb = b.entries (part_link (top_layer (y ∷ s))) in
        let one : entry_of b.key b.value (part_link (top_layer (y ∷ s)) (first_part (top_layer (y ∷ s)) b.rest)) ≡ entry_of a.key a.value (part_link (top_layer (x ∷ U)) (first_part (top_layer (x ∷ U)) a.rest)) = cc in
        let key : b.key ≡ a.key = ap (λ (z : Entry). z.key) one in
        let top : top_layer (y ∷ s) ≡ top_layer (x ∷ U) = sym b.height_is ∙ ap height key ∙ a.height_is in
        let h = top_layer (x ∷ U) in
        let K : ℕ → Type 0 = λ n. KeysUnder (suc n) (y ∷ s) in
        let W : ℕ → Type 0 = λ n. IsWithin (nodes_at n (y ∷ s)) (nodes (y ∷ s) ++ nodes (x ∷ U)) in
        let C : ℕ → Type 0 = λ n. cid (encode_layer n (y ∷ s)) ≡ cid (encode_layer h (x ∷ U)) in
        let keys = keys_under_top (x ∷ U) h (omega arith) in
        node_told (nodes (y ∷ s) ++ nodes (x ∷ U)) distinct h (links_tell (nodes (y ∷ s) ++ nodes (x ∷ U)) distinct h) (x ∷ U) (y ∷ s) keys (holes_within h (x ∷ U) keys w.neighbours w.no_lone_hole) w.neighbours w.formed m
        (subst K top (keys_under_top (y ∷ s) (top_layer (y ∷ s)) (omega arith)))
        (λ b i. among_last b (nodes (y ∷ s)) (nodes (x ∷ U)) i) (subst W top (λ b i. among_first b (nodes (y ∷ s)) (nodes (x ∷ U)) i)) (subst C top e)
