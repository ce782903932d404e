-- Below a view no block is at fault.
use Rattle.std.proofs.Common.{◌≡◌, ℕ, List, ap, ◌∙◌, Ok}
use Rattle.std.specs.FinMap.{FinMap}
use Rattle.at_cid.specs.Order.{key_cmp}
use Rattle.mst_list.specs.declared.item.Item.{Item}
use Rattle.mst_node.specs.FirstFault.{HasTopFault, in_part}
use Rattle.mst_node.specs.Reading.{node_of}
use Rattle.mst_node.specs.TreeReading.{or_missing, top_of}
use Rattle.mst_node.specs.Trees.{IsView}
use Rattle.mst_node.proofs.Blames.{top_clean, top_under}
use Rattle.mst_node.proofs.Finds.{root_there, walk_found, walk_of}
use Rattle.mst_node.proofs.Readers.{node_of_is_reader}

pub no_view : (B : FinMap key_cmp (List ℕ)) (r f : List ℕ) (F : List Item) → IsView B r F → HasTopFault in_part B r f → ⊥
no_view B r f F view bad =
    let walk = walk_of B r F view in
    let there = root_there B r F walk in
    let read_is : top_under node_of node_of_is_reader in_part B r ≡ Ok F =
    ap (or_missing in_part 0 r (top_of in_part node_of B r)) there.1 ∙ walk_found node_of node_of_is_reader B r there.0 F there.1 walk in
    top_clean node_of node_of_is_reader in_part B r f F read_is bad
