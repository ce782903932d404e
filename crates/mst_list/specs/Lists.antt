-- Lists with holes, and maps. (Repository specification, MST structure. A hole is a subtree that is
-- known by its link alone.)
use Rattle.std.specs.Prelude.{◌≡◌, ◌≢◌, ℕ, ◌<◌, ◌≤◌, List, [], ◌∷◌, length}
use Rattle.std.specs.List.{AllByRecursion}
use Rattle.std.specs.declared.cmp.Ordering.TheVariants.{Less}
use Rattle.mst_list.specs.declared.item.TheConstants.{MOST_KEY_BYTES}
use Rattle.mst_list.specs.declared.item.Item.{Item}
use Rattle.mst_list.specs.declared.item.Item.TheVariants.{Key, Hole}
use Rattle.at_cid.specs.Link.{IsBytes, IsLink, IsNodeLink}
use Rattle.at_cid.specs.Order.{key_cmp}
use Rattle.mst_list.specs.Height.{height}

-- each key of the list is above k
abbrev pub AllAbove : List ℕ → List Item → Type 0
AllAbove k [] = Unit {0}
AllAbove k (Key j v ∷ F) = (key_cmp k j ≡ Less) × AllAbove k F
AllAbove k (Hole l c ∷ F) = AllAbove k F

-- each key is below all the keys after it
abbrev pub Ascends : List Item → Type 0
Ascends [] = Unit {0}
Ascends (Key k v ∷ F) = AllAbove k F × Ascends F
Ascends (Hole l c ∷ F) = Ascends F

-- the list has no holes
abbrev pub KeysOnly : List Item → Type 0
KeysOnly [] = Unit {0}
KeysOnly (Key k v ∷ F) = KeysOnly F
KeysOnly (Hole l c ∷ F) = ⊥

-- two items may stand side by side: no two holes, and the hole's layer is below the key's height
abbrev pub MayMeet : Item → Item → Type 0
MayMeet (Key j v) (Key k w) = Unit {0}
MayMeet (Key k v) (Hole l c) = l < height k
MayMeet (Hole l c) (Key k v) = l < height k
MayMeet (Hole l c) (Hole m d) = ⊥

-- an item may stand before the list
abbrev pub MayLead : Item → List Item → Type 0
MayLead x [] = Unit {0}
MayLead x (y ∷ F) = MayMeet x y

-- neighbours may stand side by side
abbrev pub Neighbours : List Item → Type 0
Neighbours [] = Unit {0}
Neighbours (x ∷ F) = MayLead x F × Neighbours F

-- no hole of the list has the link
abbrev pub NoHoleOf : List ℕ → List Item → Type 0
NoHoleOf c [] = Unit {0}
NoHoleOf c (Key k v ∷ F) = NoHoleOf c F
NoHoleOf c (Hole l d ∷ F) = (c ≢ d) × NoHoleOf c F

-- the links of the holes are distinct
abbrev pub HolesDiffer : List Item → Type 0
HolesDiffer [] = Unit {0}
HolesDiffer (Key k v ∷ F) = HolesDiffer F
HolesDiffer (Hole l c ∷ F) = NoHoleOf c F × HolesDiffer F

-- the list isn't a hole alone
abbrev pub NoLoneHole : List Item → Type 0
NoLoneHole (Hole l c ∷ []) = ⊥
NoLoneHole _ = Unit {0}

-- a key has 1 byte to the most bytes of a key
pub record IsKey (k : List ℕ) : Type 0 where
  pub least : 1 ≤ length k
  pub most : length k ≤ MOST_KEY_BYTES
  pub bytes : IsBytes k

-- keys and links have their forms; the link of a hole is of kind Node, since a subtree is a node
abbrev pub IsFormed : Item → Type 0
IsFormed (Key k v) = IsKey k × IsLink v
IsFormed (Hole l c) = IsNodeLink c

abbrev pub AreFormed : List Item → Type 0
AreFormed F = AllByRecursion IsFormed F

-- a list with holes that is well laid
pub record IsWellLaid (F : List Item) : Type 0 where
  pub formed : AreFormed F
  pub ascends : Ascends F
  pub holes_differ : HolesDiffer F
  pub neighbours : Neighbours F
  pub no_lone_hole : NoLoneHole F

-- a map as a list: keys alone, in order
pub record IsMap (s : List Item) : Type 0 where
  pub formed : AreFormed s
  pub ascends : Ascends s
  pub keys_only : KeysOnly s
