-- The heights of items.
use Rattle.std.specs.Prelude.{ℕ}
use Rattle.mst_list.specs.declared.item.Item.{Item}
use Rattle.mst_list.specs.declared.item.Item.TheVariants.{Key, Hole}
use Rattle.mst_list.specs.Height.{height}

-- the height of an item's key, and 0 for a hole
abbrev pub item_height : Item → ℕ
item_height (Key k v) = height k
item_height (Hole l c) = 0
