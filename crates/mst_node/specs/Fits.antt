-- Which nodes may stand where in a tree. (Repository specification, MST structure: a node's keys
-- have its layer's height and ascend between the keys beside its subtree; below it is one layer
-- less; no node is empty but that of the empty tree.)
use Rattle.std.specs.Prelude.{ℕ, Bool, true, false, not, ◌&&◌, eqb, List, [], ◌∷◌, Option, Some, None}
use Rattle.at_cid.specs.Order.{key_cmp}
use Rattle.mst_list.specs.Height.{height}
use Rattle.mst_list.specs.Edits.{by_order}
use Rattle.mst_node.specs.declared.entry.Entry.{Entry}
use Rattle.mst_node.specs.NodeFaults.{layer_of}
use Rattle.mst_node.specs.Nodes.{Node}
use Rattle.mst_node.specs.Reading.{is_over, key_before}

-- two keys are in order
abbrev pub is_less : List ℕ → List ℕ → Bool
is_less j k = by_order (key_cmp j k) true false false

abbrev pub is_under : List ℕ → Option (List ℕ) → Bool
is_under k None = true
is_under k (Some j) = is_less k j

-- at layer 0 there is no child
abbrev pub may_hang : ℕ → Option (List ℕ) → Bool
may_hang h None = true
may_hang h (Some c) = not (eqb h 0)

-- an entry stands at layer h between two bounds
abbrev pub entry_fits : ℕ → Option (List ℕ) → Option (List ℕ) → Entry → Bool
entry_fits h low high e =
    eqb (height e.key) h && (is_over low e.key && (is_under e.key high && may_hang h e.right))

-- the entries stand at layer h, in order, between two bounds
abbrev pub entries_fit : ℕ → Option (List ℕ) → Option (List ℕ) → List Entry → Bool
entries_fit h low high [] = true
entries_fit h low high (e ∷ es) = entry_fits h low high e && entries_fit h (Some e.key) high es

-- an entry stands at layer h, whatever keys are beside its own
abbrev pub stands : ℕ → Entry → Bool
stands h e = eqb (height e.key) h && may_hang h e.right

-- the first key is above a bound, and the last one below another
abbrev pub are_between : Option (List ℕ) → Option (List ℕ) → List Entry → Bool
are_between low high [] = true
are_between low high (e ∷ es) = is_over low e.key && is_under (key_before e.key es) high

-- there is an entry or a link
abbrev pub is_some_node : Node → Bool
is_some_node (None, []) = false
is_some_node n = true

-- a node at layer h between two bounds, below the top
abbrev pub node_fits : ℕ → Option (List ℕ) → Option (List ℕ) → Node → Bool
node_fits h low high n = (may_hang h n.0 && is_some_node n) && entries_fit h low high n.1

-- an entry, or no link
abbrev pub may_top : Node → Bool
may_top (Some c, []) = false
may_top n = true

-- the layer of a top node: the height of its first key
abbrev pub layer_of_node : Node → ℕ
layer_of_node n = layer_of n.1

-- a node at the top
abbrev pub top_fits : Node → Bool
top_fits n = (may_hang (layer_of n.1) n.0 && may_top n) && entries_fit (layer_of n.1) None None n.1
