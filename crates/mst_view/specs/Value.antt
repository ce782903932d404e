-- What a node with stubs is seen as: its layer and its list with holes.
use Rattle.std.specs.Prelude.{ℕ, List}
use Rattle.mst_list.specs.declared.item.Item.{Item}

pub record Layered : Type 0 where
  pub layer : ℕ
  pub items : List Item
