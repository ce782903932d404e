-- Trees in which subtrees may be holes, seen as lists.
use Rattle.std.specs.Prelude.{◌≡◌, List, [], Option, Some, None}
use Rattle.mst_list.specs.declared.item.Item.{Item}
use Rattle.mst_list.specs.Lists.{IsWellLaid}
use Rattle.mst_node.specs.Trees.{top_layer}
use Rattle.mst_view.specs.Value.{Layered}

-- what the top node holds, where there is one
abbrev pub top_items : Option Layered → List Item
top_items None = []
top_items (Some v) = v.items

-- the top node stands at the layer of the highest key of a well-laid list
abbrev pub IsTop : Option Layered → Type 0
IsTop None = Unit {0}
IsTop (Some v) = IsWellLaid v.items × (top_layer v.items ≡ v.layer)
