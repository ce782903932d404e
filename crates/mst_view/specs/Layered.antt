-- A node with stubs is seen as its layer and its list with holes.
use Rattle.std.specs.Prelude.{◌≡◌, ℕ, suc, ◌+◌, ◌-◌, ◌<◌, Bool, true, false, List, [], ◌∷◌, ◌++◌, length, map, Option, Some, None}
use Rattle.at_cid.specs.Link.{cid}
use Rattle.mst_list.specs.declared.item.Item.{Item}
use Rattle.mst_list.specs.declared.item.Item.TheVariants.{Key, Hole}
use Rattle.mst_list.specs.Height.{height}
use Rattle.mst_node.specs.declared.entry.Entry.{Entry}
use Rattle.mst_node.specs.Trees.{encode_layer, KeysUnder, HolesUnder}
use Rattle.mst_view.specs.Value.{Layered}
use Rattle.mst_view.specs.declared.branch.Below.{Below}
use Rattle.mst_view.specs.declared.branch.Below.TheVariants.{Empty, Hole as Stub, Tree}
use Rattle.mst_view.specs.declared.branch.Part.{Part}

abbrev pub below_items : ℕ → Below → List Item
below_items h Empty = []
below_items h (Stub c) = Hole (h - 1) c ∷ []
below_items h (Tree b) = b.value.items

abbrev pub rest_items : ℕ → List Part → List Item
rest_items h [] = []
rest_items h (p ∷ parts) = Key p.key p.value ∷ (below_items h p.below ++ rest_items h parts)

abbrev pub layered : ℕ → Below → List Part → Layered
layered h first parts = record { layer = h; items = below_items h first ++ rest_items h parts }

-- a list that a node at a layer encodes: no key above the layer, each hole below it, and not empty
pub record IsAtLayer (v : Layered) : Type 0 where
  pub keys : KeysUnder (suc v.layer) v.items
  pub holes : HolesUnder v.layer v.items
  pub some : 0 < length v.items

-- what lies below is one layer lower
abbrev pub LiesBelow : ℕ → Below → Type 0
LiesBelow h Empty = Unit {0}
LiesBelow h (Stub c) = 0 < h
LiesBelow h (Tree b) = (b.value.layer + 1 ≡ h) × IsAtLayer b.value

abbrev pub AllAt : ℕ → List Part → Type 0
AllAt h [] = Unit {0}
AllAt h (p ∷ parts) = (height p.key ≡ h) × LiesBelow h p.below × AllAt h parts

-- a link that is kept is the link of the encoded block
abbrev pub IsKept : Layered → Option (List ℕ) → Type 0
IsKept v None = Unit {0}
IsKept v (Some c) = c ≡ cid (encode_layer v.layer v.items)

pub record IsLayered (h : ℕ) (kept : Option (List ℕ))
    (first : Below) (parts : List Part) : Type 0 where
  pub first_lies : LiesBelow h first
  pub all_at : AllAt h parts
  pub kept_is : IsKept (layered h first parts) kept

-- the link that a node keeps of what lies below it
abbrev pub below_link : Below → Option (List ℕ)
below_link Empty = None
below_link (Stub c) = Some c
below_link (Tree b) = Some (cid (encode_layer b.value.layer b.value.items))

-- what is known of a subtree by its link alone
abbrev pub stub_of : Option (List ℕ) → Below
stub_of None = Empty
stub_of (Some c) = Stub c

-- the entry that a part is kept of
abbrev pub part_entry : Part → Entry
part_entry p = record { key = p.key; value = p.value; right = below_link p.below }

abbrev pub entries_of : List Part → List Entry
entries_of parts = map part_entry parts

-- no more is known than a link
abbrev pub knows_link : Below → Bool
knows_link Empty = true
knows_link (Stub c) = true
knows_link (Tree b) = false

abbrev pub is_bare : Part → Bool
is_bare p = knows_link p.below
