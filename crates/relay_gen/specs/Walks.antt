-- What is walked through of a map's tree. No public clause cites this file.
use Rattle.std.specs.Prelude.{ℕ, List, [], ◌∷◌, ◌++◌, Option, Some}
use Rattle.mst_list.specs.declared.item.Item.{Item}
use Rattle.mst_list.specs.declared.item.Item.TheVariants.{Key, Hole}
use Rattle.mst_list.specs.Lists.{Ascends, KeysOnly}
use Rattle.mst_node.specs.Covers.{Encoded, IsOver, IsUnder, bound_at, part_encoded, right_encoded, encoded_blocks}
use Rattle.mst_node.specs.Trees.{first_part, encode_layer, nodes}
use Rattle.mst_view.specs.declared.branch.Part.{Part}
use Rattle.relay_gen.specs.Covers.{on_ways}

-- the blocks of a node at layer h that lies between two bounds, and of what lies below it
abbrev pub node_encoded : ℕ → Option (List ℕ) → Option (List ℕ) → List Item → List Encoded
node_encoded h low high F =
    record { low = low; high = high; block = encode_layer h F }
    ∷ (part_encoded h low (bound_at h high F) (first_part h F)
    ++ right_encoded (part_encoded h) h high F)

-- the keys lie between two bounds
abbrev pub AreBetween : Option (List ℕ) → Option (List ℕ) → List Item → Type 0
AreBetween low high [] = Unit {0}
AreBetween low high (Key k v ∷ F) = IsOver low k × IsUnder k high × AreBetween low high F
AreBetween low high (Hole l c ∷ F) = AreBetween low high F

-- keys alone, in order, between two bounds
pub record IsRange (low high : Option (List ℕ)) (F : List Item) : Type 0 where
  pub keys_only : KeysOnly F
  pub ascends : Ascends F
  pub between : AreBetween low high F

-- the blocks of a map's tree on the ways to keys, or the empty node
abbrev pub given_for : List Item → List (List ℕ) → List (List ℕ)
given_for [] keys = nodes []
given_for (x ∷ t) keys = on_ways keys (encoded_blocks (x ∷ t))

-- the key of the first part, or else the bound behind the parts
abbrev pub part_bound : Option (List ℕ) → List Part → Option (List ℕ)
part_bound high [] = high
part_bound high (p ∷ parts) = Some p.key
