-- The blocks at fault below a link, and the first of them: parents before what hangs below them,
-- and from left to right.
use Rattle.std.specs.Prelude.{◌≡◌, ℕ, zero, suc, ◌⊎◌, List, [], ◌∷◌, Option, Some, None}
use Rattle.std.specs.FinMap as map
use Rattle.std.specs.FinMap.{FinMap}
use Rattle.at_cid.specs.Order.{key_cmp}
use Rattle.mst_node.specs.declared.entry.Entry.{Entry}
use Rattle.mst_node.specs.NodeFaults.{IsNodeAt, IsTopNode, layer_of, next_bound}

-- whether blocks may be a part of a tree, in which a link whose block isn't there is a hole, or
-- have to be the whole tree, in which it is at fault
pub data Extent : Type 0 where
  in_part : Extent
  in_whole : Extent

-- a block that isn't there, at its link c, where this is a fault
abbrev pub IsMissing : Extent → FinMap key_cmp (List ℕ) → List ℕ → List ℕ → Type 0
IsMissing in_part B c f = ⊥
IsMissing in_whole B c f = (map.get B c ≡ None) × (f ≡ c)

-- a fault at the link f, of the block under the link c or of one below it: the block is no node
-- that may stand there (`stands` says which do), or it is one, and a fault lies below it
abbrev pub IsFaultAt : Extent → FinMap key_cmp (List ℕ)
    → (List ℕ → Option (List ℕ) → List Entry → Type 0)
    → (Option (List ℕ) → List Entry → List ℕ → Type 0) → List ℕ → List ℕ → Type 0
IsFaultAt extent B stands below c f =
    IsMissing extent B c f
    ⊎ ((b : List ℕ) × (map.get B c ≡ Some b)
    × ((((left : Option (List ℕ)) (es : List Entry) → stands b left es → ⊥) × (f ≡ c))
    ⊎ ((left : Option (List ℕ)) × (es : List Entry) × stands b left es × below left es f)))

-- what is at fault at a link f, between two bounds and below a link
abbrev pub FaultBelow : Type 1
FaultBelow = Option (List ℕ) → Option (List ℕ) → Option (List ℕ) → List ℕ → Type 0

-- a fault to the right of an entry
abbrev pub HasFaultIn : FaultBelow → Option (List ℕ) → List Entry → List ℕ → Type 0
HasFaultIn below high [] f = ⊥
HasFaultIn below high (e ∷ es) f =
    below (Some e.key) (next_bound high es) e.right f ⊎ HasFaultIn below high es f

-- a fault below a node: to its left, or to the right of an entry
abbrev pub HasFaultBelow : FaultBelow → Option (List ℕ)
    → Option (List ℕ) → Option (List ℕ) → List Entry → List ℕ → Type 0
HasFaultBelow below low high left es f =
    below low (next_bound high es) left f ⊎ HasFaultIn below high es f

-- a block at fault below a link that hangs below layer h between two bounds, at its link f
abbrev pub HasFault : Extent → FinMap key_cmp (List ℕ) → ℕ → FaultBelow
HasFault extent B zero low high c f = ⊥
HasFault extent B (suc h) low high None f = ⊥
HasFault extent B (suc h) low high (Some c) f =
    IsFaultAt extent B (IsNodeAt h low high) (HasFaultBelow (HasFault extent B h) low high) c f

-- a block at fault at or below the link of a top, at its link f
abbrev pub HasTopFault : Extent → FinMap key_cmp (List ℕ) → List ℕ → List ℕ → Type 0
HasTopFault extent B r f = IsFaultAt extent B IsTopNode
    (λ left es. HasFaultBelow (HasFault extent B (layer_of es)) None None left es) r f

-- the first fault to the right of an entry: to the right of those before it nothing is at fault
abbrev pub IsFirstIn : FaultBelow → FaultBelow → Option (List ℕ) → List Entry → List ℕ → Type 0
IsFirstIn first any high [] f = ⊥
IsFirstIn first any high (e ∷ es) f = first (Some e.key) (next_bound high es) e.right f
    ⊎ (((g : List ℕ) → any (Some e.key) (next_bound high es) e.right g → ⊥)
    × IsFirstIn first any high es f)

-- the first fault below a node: to its left, or where nothing is at fault there to the right of an
-- entry
abbrev pub IsFirstBelow : FaultBelow → FaultBelow → Option (List ℕ)
    → Option (List ℕ) → Option (List ℕ) → List Entry → List ℕ → Type 0
IsFirstBelow first any low high left es f = first low (next_bound high es) left f
    ⊎ (((g : List ℕ) → any low (next_bound high es) left g → ⊥) × IsFirstIn first any high es f)

-- the first block at fault below a link that hangs below layer h between two bounds, at its link f
abbrev pub IsFirstFault : Extent → FinMap key_cmp (List ℕ) → ℕ → FaultBelow
IsFirstFault extent B zero low high c f = ⊥
IsFirstFault extent B (suc h) low high None f = ⊥
IsFirstFault extent B (suc h) low high (Some c) f = IsFaultAt extent B (IsNodeAt h low high)
    (IsFirstBelow (IsFirstFault extent B h) (HasFault extent B h) low high) c f

-- the first block at fault at or below the link of a top, at its link f
abbrev pub IsFirstTopFault : Extent → FinMap key_cmp (List ℕ) → List ℕ → List ℕ → Type 0
IsFirstTopFault extent B r f = IsFaultAt extent B IsTopNode (λ left es. IsFirstBelow
    (IsFirstFault extent B (layer_of es)) (HasFault extent B (layer_of es)) None None left es) r f
