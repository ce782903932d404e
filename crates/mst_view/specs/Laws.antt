-- The laws of views.
use Rattle.std.specs.Prelude.{◌≡◌, ℕ, ◌≤◌, ◌⊎◌, List, Some, length}
use Rattle.std.specs.FinMap as map
use Rattle.std.specs.FinMap.{FinMap}
use Rattle.at_cid.specs.Link.{IsNodeLink}
use Rattle.at_cid.specs.Order.{key_cmp}
use Rattle.mst_list.specs.declared.item.Item.{Item}
use Rattle.mst_node.specs.Covers.{AreUnderNodeLinks}
use Rattle.mst_node.specs.Trees.{IsView, nodes}
use Rattle.mst_view.specs.ViewFault.{IsAtFault}

-- the blocks have exactly one view at r, or exactly one link is at fault
pub record IsToldView (B : FinMap key_cmp (List ℕ)) (r : List ℕ) : Type 0 where
  pub some : ((F : List Item) × IsView B r F) ⊎ ((c : List ℕ) × IsAtFault B r c)
  pub not_both : (F : List Item) (c : List ℕ) → IsView B r F → IsAtFault B r c → ⊥
  pub one_view : (F G : List Item) → IsView B r F → IsView B r G → F ≡ G
  pub one_fault : (c d : List ℕ) → IsAtFault B r c → IsAtFault B r d → c ≡ d

abbrev pub ViewLaw : Type 0
ViewLaw = (B : FinMap key_cmp (List ℕ)) (r b : List ℕ) → AreUnderNodeLinks B
    → IsNodeLink r → map.get B r ≡ Some b → IsToldView B r

-- A view has at most as many nodes as there are blocks.
abbrev pub ViewSizeLaw : Type 0
ViewSizeLaw = (B : FinMap key_cmp (List ℕ)) (r : List ℕ) (F : List Item)
    → IsView B r F → length (nodes F) ≤ map.len B
