-- No tree has more layers than there are heights.
use Rattle.std.proofs.Common.{◌≤◌, List, [], ◌∷◌, Option, Some, None, arith}
use Rattle.std.specs.Prelude.{IfSome}
use Rattle.mst_list.specs.declared.item.Item.{Item}
use Rattle.mst_list.specs.declared.item.Item.TheVariants.{Key, Hole}
use Rattle.mst_list.specs.declared.limits.TheConstants.{MOST_HEIGHT}
use Rattle.mst_list.proofs.Zeros.{height_most}
use Rattle.mst_node.specs.Trees.{top_layer}
use Rattle.mst_view.specs.Value.{Layered}
use Rattle.mst_view.specs.StubTree.{IsTop}

pub top_most : (F : List Item) → top_layer F ≤ MOST_HEIGHT
top_most [] = omega arith
top_most (Key k v ∷ F) = let one = height_most k in let more = top_most F in omega arith
top_most (Hole l c ∷ F) = top_most F

pub top_deep : (o : Option Layered) → IsTop o → IfSome o (λ top. top.layer ≤ MOST_HEIGHT)
top_deep None h = tt
top_deep (Some v) h = let most = top_most v.items in let at = h.1 in omega arith
