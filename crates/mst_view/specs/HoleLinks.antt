-- The links of holes.
use Rattle.std.specs.Prelude.{ℕ, List, [], ◌∷◌}
use Rattle.mst_list.specs.declared.item.Item.{Item}
use Rattle.mst_list.specs.declared.item.Item.TheVariants.{Key, Hole}

-- the links of a list's holes, in order
abbrev pub hole_links : List Item → List (List ℕ)
hole_links [] = []
hole_links (Key k v ∷ F) = hole_links F
hole_links (Hole l c ∷ F) = c ∷ hole_links F
