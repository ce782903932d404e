-- At most one list is a view of blocks at a link.
use Rattle.std.proofs.Common.{◌≡◌, ℕ, List}
use Rattle.std.specs.FinMap.{FinMap}
use Rattle.at_cid.specs.Order.{key_cmp}
use Rattle.mst_list.specs.declared.item.Item.{Item}
use Rattle.mst_node.specs.Reading.{node_of}
use Rattle.mst_node.specs.Trees.{IsView}
use Rattle.mst_node.proofs.Finds.{walk_of, walk_once}
use Rattle.mst_node.proofs.Readers.{node_of_is_reader}

pub one_view : (B : FinMap key_cmp (List ℕ)) (r : List ℕ) (F G : List Item) → IsView B r F → IsView B r G → F ≡ G
one_view B r F G v w = walk_once node_of node_of_is_reader B r F G (walk_of B r F v) (walk_of B r G w)
