-- A view without holes of the nodes that are kept is one of all blocks.
use Rattle.std.proofs.Common.{◌≡◌, ℕ, true, false, cond, List, [], ◌∷◌, Option, Some, None, Result, Ok, Err, sym, ◌∙◌}
use Rattle.std.specs.Prelude.{Bool, IfOk}
use Rattle.std.specs.FinMap as map
use Rattle.std.specs.FinMap.{FinMap}
use Rattle.at_cid.specs.Link.{cid, IsNodeLink}
use Rattle.at_cid.specs.Order.{key_cmp}
use Rattle.at_car.specs.Blocks.{AreLinked, BlockMap}
use Rattle.at_car.specs.Finishing.{IsKeptOf}
use Rattle.at_car.specs.Sifting.{picked}
use Rattle.at_car.specs.declared.scan.Kept.{Kept}
use Rattle.mst_list.specs.declared.item.Item.{Item}
use Rattle.mst_list.specs.declared.item.Item.TheVariants.{Key, Hole}
use Rattle.mst_list.specs.Lists.{KeysOnly}
use Rattle.mst_node.specs.Trees.{nodes, AllThere, NoHoleThere}
use Rattle.mst_whole.specs.Counting.{walked}
use Rattle.mst_whole.specs.Walks.{is_node_block, HasKeys}
use Rattle.mst_whole.specs.declared.walking.WalkFault.{WalkFault}
use Rattle.mst_whole.proofs.Walked.{keys_given}

picked_from : (picks : List ℕ → Bool) (o : Option (List ℕ)) (b : List ℕ) → picked picks o ≡ Some b → o ≡ Some b
picked_from picks None b e = e
picked_from picks (Some a) b e = elim (picks a) as (λ t. cond t (Some a) None ≡ Some b → Some a ≡ Some b) [ true ↦ λ h. h | false ↦ λ h. absurd (cc) ] e

module _ (some blocks : FinMap key_cmp (List ℕ)) (are : (c : List ℕ) → map.get some c ≡ picked is_node_block (map.get blocks c)) where
  pub all_there : (S : List (List ℕ)) → AllThere some S → AllThere blocks S
  all_there [] t = tt
  all_there (b ∷ S) t = (picked_from is_node_block (map.get blocks (cid b)) b (sym (are (cid b)) ∙ t.0), all_there S t.1)

pub no_holes : (B : FinMap key_cmp (List ℕ)) (F : List Item) → KeysOnly F → NoHoleThere B F
no_holes B [] keys = tt
no_holes B (Key k v ∷ F) keys = no_holes B F keys
no_holes B (Hole l c ∷ F) keys = absurd keys

keys_kept : (kept : Kept) (blocks : BlockMap) (r : List ℕ) (n : ℕ) → IsKeptOf is_node_block blocks kept → HasKeys kept.nodes r n → HasKeys blocks r n
keys_kept kept blocks r n of (F, view, keys, is) =
    (F, record { well_laid = view.well_laid; root_is = view.root_is; there = all_there kept.nodes blocks of.nodes_are (nodes F) view.there; holes = no_holes blocks F keys }, keys, is)

-- the keys that are counted are those of all blocks
pub keys_of_kept : (kept : Kept) (r : List ℕ) (result : Result ℕ WalkFault) → AreLinked kept.nodes → IsNodeLink r → IfOk result (λ n. walked kept.nodes r ≡ Ok n)
    → (blocks : BlockMap) → IsKeptOf is_node_block blocks kept → IfOk result (HasKeys blocks r)
keys_of_kept kept r (Ok n) linked kind is blocks of = keys_kept kept blocks r n of (keys_given kept.nodes r (Ok n) linked kind is)
keys_of_kept kept r (Err fault) linked kind is blocks of = tt
