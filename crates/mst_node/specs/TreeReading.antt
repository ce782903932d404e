-- The list that blocks hold under a link, or the link of the first block at fault. (What leads and
-- what is at fault is said without it; laws show that it names exactly that.)
use Rattle.std.specs.Prelude.{ℕ, zero, suc, Bool, cond, List, [], ◌∷◌, ◌++◌, Option, Some, None, Result, Ok, Err}
use Rattle.std.specs.FinMap as map
use Rattle.std.specs.FinMap.{FinMap}
use Rattle.at_cid.specs.Order.{key_cmp}
use Rattle.mst_list.specs.declared.item.Item.{Item}
use Rattle.mst_list.specs.declared.item.Item.TheVariants.{Key, Hole}
use Rattle.mst_node.specs.declared.entry.Entry.{Entry}
use Rattle.mst_node.specs.FirstFault.{Extent, in_part, in_whole}
use Rattle.mst_node.specs.Fits.{node_fits, top_fits}
use Rattle.mst_node.specs.NodeFaults.{next_bound, layer_of}
use Rattle.mst_node.specs.Nodes.{Node}

-- a later step, where the step before gave something
abbrev pub go_on : {A X F : Type 0} → Result A F → (A → Result X F) → Result X F
go_on (Ok x) f = f x
go_on (Err e) f = Err e

-- what stands from the first entry on, `below` giving what hangs between two bounds under a link
abbrev pub rights_of :
    (Option (List ℕ) → Option (List ℕ) → Option (List ℕ) → Result (List Item) (List ℕ))
    → Option (List ℕ) → List Entry → Result (List Item) (List ℕ)
rights_of below high [] = Ok []
rights_of below high (e ∷ es) =
    go_on (below (Some e.key) (next_bound high es) e.right) (λ P.
    go_on (rights_of below high es) (λ G.
    Ok (Key e.key e.value ∷ (P ++ G))))

-- what a node holds: the subtree to its left, then each entry and the subtree to its right
abbrev pub parts_of :
    (Option (List ℕ) → Option (List ℕ) → Option (List ℕ) → Result (List Item) (List ℕ))
    → Option (List ℕ) → Option (List ℕ) → Node → Result (List Item) (List ℕ)
parts_of below low high n =
    go_on (below low (next_bound high n.1) n.0) (λ P.
    go_on (rights_of below high n.1) (λ G.
    Ok (P ++ G)))

-- what a block under the link c holds: c is at fault where the block is no node or doesn't pass
abbrev pub block_of : (Node → Bool) → (Node → Result (List Item) (List ℕ))
    → List ℕ → Option Node → Result (List Item) (List ℕ)
block_of passes parts c None = Err c
block_of passes parts c (Some n) = cond (passes n) (parts n) (Err c)

-- what a link of layer h stands for whose block isn't there
abbrev pub missing_at : Extent → ℕ → List ℕ → Result (List Item) (List ℕ)
missing_at in_part h c = Ok (Hole h c ∷ [])
missing_at in_whole h c = Err c

-- what the block under a link holds, where it is there
abbrev pub or_missing : Extent → ℕ → List ℕ → (List ℕ → Result (List Item) (List ℕ))
    → Option (List ℕ) → Result (List Item) (List ℕ)
or_missing extent h c inside None = missing_at extent h c
or_missing extent h c inside (Some b) = inside b

-- what hangs under a link below layer h, between two bounds; `read` gives the node that a block
-- encodes
unfoldable pub part_at : Extent → (List ℕ → Option Node) → FinMap key_cmp (List ℕ) → ℕ
    → Option (List ℕ) → Option (List ℕ) → Option (List ℕ) → Result (List Item) (List ℕ)
part_at extent read B zero low high c = Ok []
part_at extent read B (suc h) low high None = Ok []
part_at extent read B (suc h) low high (Some c) = or_missing extent h c
    (λ b. block_of (node_fits h low high) (parts_of (part_at extent read B h) low high) c (read b))
    (map.get B c)

-- what the top block b under r holds
abbrev pub top_of : Extent → (List ℕ → Option Node)
    → FinMap key_cmp (List ℕ) → List ℕ → List ℕ → Result (List Item) (List ℕ)
top_of extent read B r b =
    block_of top_fits (λ n. parts_of (part_at extent read B (layer_of n.1)) None None n) r (read b)

-- what the whole tree under r holds
abbrev pub whole_of : (List ℕ → Option Node)
    → FinMap key_cmp (List ℕ) → List ℕ → Result (List Item) (List ℕ)
whole_of read B r = or_missing in_whole 0 r (top_of in_whole read B r) (map.get B r)
