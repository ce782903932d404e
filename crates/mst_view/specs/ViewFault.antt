-- Why there is no view.
use Rattle.std.specs.Prelude.{◌≡◌, ◌⊎◌, ℕ, List, None}
use Rattle.std.specs.FinMap as map
use Rattle.std.specs.FinMap.{FinMap}
use Rattle.at_cid.specs.Order.{key_cmp}
use Rattle.mst_list.specs.declared.item.Item.{Item}
use Rattle.mst_list.specs.Lists.{HolesDiffer}
use Rattle.mst_node.specs.FirstFault.{IsFirstTopFault, in_part}
use Rattle.mst_node.specs.Trees.{IsView, IsWalk}
use Rattle.mst_view.specs.declared.reading.ReadFault.{ReadFault}
use Rattle.mst_view.specs.declared.viewing.ViewFault.{ViewFault}

-- a link of a hole stands twice in what is else a view
abbrev pub HasDoubledHole : FinMap key_cmp (List ℕ) → List ℕ → Type 0
HasDoubledHole B r = (F : List Item) × IsWalk B r F × (HolesDiffer F → ⊥)

-- the link is that of the first block at fault, parents first and left to right, or the root where
-- a hole's link stands twice
abbrev pub IsAtFault : FinMap key_cmp (List ℕ) → List ℕ → List ℕ → Type 0
IsAtFault B r c = IsFirstTopFault in_part B r c ⊎ ((c ≡ r) × HasDoubledHole B r)

-- the root isn't there, or it is and the block under the link is at fault
abbrev pub IsViewFault : FinMap key_cmp (List ℕ) → List ℕ → ViewFault → Type 0
IsViewFault B r (ViewFault.NoBlock c) = (c ≡ r) × (map.get B r ≡ None)
IsViewFault B r (ViewFault.BadNode c) = IsAtFault B r c
IsViewFault B r ViewFault.Memory = Unit {0}

-- no list is a view, unless memory ran out
abbrev pub HasNoView : FinMap key_cmp (List ℕ) → List ℕ → ViewFault → Type 0
HasNoView B r ViewFault.Memory = Unit {0}
HasNoView B r fault = (F : List Item) → IsView B r F → ⊥

-- what stopped a reading
abbrev pub fault_of : ReadFault → ViewFault
fault_of (ReadFault.BadNode c) = ViewFault.BadNode c
fault_of ReadFault.Memory = ViewFault.Memory
