-- A walk over the nodes alone is one over all blocks.
use Rattle.std.proofs.Common.{◌≡◌, ℕ, zero, suc, cond, Bool, List, [], ◌∷◌, ◌++◌, refl, sym, ap, ◌∙◌, subst, Option, Some, None, Result, Ok, Err}
use Rattle.std.specs.Prelude.{is_some, ◌||◌}
use Rattle.std.specs.FinMap as map
use Rattle.std.specs.FinMap.{FinMap}
use Rattle.at_cid.specs.Order.{key_cmp}
use Rattle.at_cid.specs.Memory.{Fails}
use Rattle.at_car.specs.Blocks.{BlockMap}
use Rattle.at_car.specs.Links.{has}
use Rattle.at_car.specs.Sifting.{picked, is_passed}
use Rattle.at_car.specs.Finishing.{IsKeptOf}
use Rattle.at_car.specs.declared.scan.Kept.{Kept}
use Rattle.at_car.proofs.Sifts.{held}
use Rattle.mst_list.specs.declared.item.Item.{Item}
use Rattle.mst_list.specs.declared.item.Item.TheVariants.{Key}
use Rattle.mst_node.specs.declared.entry.Entry.{Entry}
use Rattle.mst_node.specs.Nodes.{Node}
use Rattle.mst_node.specs.NodeFaults.{layer_of, next_bound}
use Rattle.mst_node.specs.Reading.{node_of}
use Rattle.mst_node.specs.FirstFault.{in_whole}
use Rattle.mst_node.specs.Fits.{node_fits, top_fits}
use Rattle.mst_node.specs.TreeReading.{go_on, block_of, or_missing, parts_of, part_at, rights_of, whole_of}
use Rattle.mst_node.proofs.Steps.{at_link, at_none, at_zero}
use Rattle.mst_whole.specs.declared.counting.CountFault.{CountFault}
use Rattle.mst_whole.specs.Counting.{count, fault_at, fault_in, kept_fault_of, link_at_fault, told, walked}
use Rattle.mst_whole.specs.Walks.{cause_of, is_node_block}
use Rattle.mst_whole.specs.declared.walking.WalkFault.{WalkFault}

-- what is read of a block is the same where no other block is missing but those that are no nodes
block_same : (h : ℕ) (passes : Node → Bool) (parts others : Node → Result (List Item) (List ℕ)) (c : List ℕ) (o : Option (List ℕ)) → ((n : Node) → parts n ≡ others n)
    → or_missing in_whole h c (λ b. block_of passes parts c (node_of b)) (picked is_node_block o) ≡ or_missing in_whole h c (λ b. block_of passes others c (node_of b)) o
block_same h passes parts others c None same = refl
block_same h passes parts others c (Some b) same =
    elim (node_of b) as (λ n. node_of b ≡ n → or_missing in_whole h c (λ b. block_of passes parts c (node_of b)) (cond (is_some n) (Some b) None) ≡ block_of passes others c n) [
      | None ↦ λ e. refl
      | Some n ↦ λ e. ap (block_of passes parts c) e ∙ ap (λ r. cond (passes n) r (Err c)) (same n)
    ] refl

rights_same : (below other : Option (List ℕ) → Option (List ℕ) → Option (List ℕ) → Result (List Item) (List ℕ)) → ((low high c : Option (List ℕ)) → below low high c ≡ other low high c) → (high : Option (List ℕ)) (es : List Entry) → rights_of below high es ≡ rights_of other high es
rights_same below other same high [] = refl
rights_same below other same high (e ∷ es) =
    ap (λ r. go_on r (λ P. go_on (rights_of below high es) (λ G. Ok (Key e.key e.value ∷ (P ++ G))))) (same (Some e.key) (next_bound high es) e.right)
    ∙ ap (λ r. go_on (other (Some e.key) (next_bound high es) e.right) (λ P. go_on r (λ G. Ok (Key e.key e.value ∷ (P ++ G))))) (rights_same below other same high es)

parts_same : (below other : Option (List ℕ) → Option (List ℕ) → Option (List ℕ) → Result (List Item) (List ℕ)) → ((low high c : Option (List ℕ)) → below low high c ≡ other low high c) → (low high : Option (List ℕ)) (n : Node) → parts_of below low high n ≡ parts_of other low high n
parts_same below other same low high n =
    ap (λ r. go_on r (λ P. go_on (rights_of below high n.1) (λ G. Ok (P ++ G)))) (same low (next_bound high n.1) n.0)
    ∙ ap (λ r. go_on (other low (next_bound high n.1) n.0) (λ P. go_on r (λ G. Ok (P ++ G)))) (rights_same below other same high n.1)

module _ (nodes blocks : FinMap key_cmp (List ℕ)) (are : (c : List ℕ) → map.get nodes c ≡ picked is_node_block (map.get blocks c)) where
  all_same : (h : ℕ) (low high c : Option (List ℕ)) → part_at in_whole node_of nodes h low high c ≡ part_at in_whole node_of blocks h low high c
  all_same zero low high c = at_zero in_whole node_of nodes low high c ∙ sym (at_zero in_whole node_of blocks low high c)
  all_same (suc h) low high None = at_none in_whole node_of nodes (suc h) low high ∙ sym (at_none in_whole node_of blocks (suc h) low high)
  all_same (suc h) low high (Some c) =
      at_link in_whole node_of nodes h low high c
      ∙ ap (or_missing in_whole h c (λ b. block_of (node_fits h low high) (parts_of (part_at in_whole node_of nodes h) low high) c (node_of b))) (are c)
      ∙ block_same h (node_fits h low high) (parts_of (part_at in_whole node_of nodes h) low high) (parts_of (part_at in_whole node_of blocks h) low high) c (map.get blocks c)
      (λ n. parts_same (part_at in_whole node_of nodes h) (part_at in_whole node_of blocks h) (all_same h) low high n)
      ∙ sym (at_link in_whole node_of blocks h low high c)

  pub whole_same : (r : List ℕ) → whole_of node_of nodes r ≡ whole_of node_of blocks r
  whole_same r =
      ap (or_missing in_whole 0 r (λ b. block_of top_fits (λ n. parts_of (part_at in_whole node_of nodes (layer_of n.1)) None None n) r (node_of b))) (are r)
      ∙ block_same 0 top_fits (λ n. parts_of (part_at in_whole node_of nodes (layer_of n.1)) None None n) (λ n. parts_of (part_at in_whole node_of blocks (layer_of n.1)) None None n) r (map.get blocks r)
      (λ n. parts_same (part_at in_whole node_of nodes (layer_of n.1)) (part_at in_whole node_of blocks (layer_of n.1)) (all_same (layer_of n.1)) None None n)

fault_same : (c : List ℕ) (o : Option (List ℕ)) → fault_in c (is_some o) ≡ fault_at c o
fault_same c None = refl
fault_same c (Some b) = refl

told_at : (blocks : FinMap key_cmp (List ℕ)) (nodes : FinMap key_cmp (List ℕ)) (others : List (List ℕ)) (c : List ℕ) → map.get nodes c ≡ picked is_node_block (map.get blocks c) → has others c ≡ is_passed is_node_block (map.get blocks c)
    → fault_in c (is_some (map.get nodes c) || has others c) ≡ fault_at c (map.get blocks c)
told_at blocks nodes others c n o =
    ap (λ x. fault_in c (is_some x || has others c)) n ∙ ap (λ x. fault_in c (is_some (picked is_node_block (map.get blocks c)) || x)) o
    ∙ ap (fault_in c) (held is_node_block (map.get blocks c)) ∙ fault_same c (map.get blocks c)

-- the answer is that of a walk over all blocks
pub kept_ok : (kept : Kept) (r : List ℕ) (n : ℕ) → count (whole_of node_of kept.nodes r) ≡ Ok n → (blocks : BlockMap) → IsKeptOf is_node_block blocks kept → walked blocks r ≡ Ok n
kept_ok kept r n e blocks k = ap (λ x. told blocks (count x)) (sym (whole_same kept.nodes blocks k.nodes_are r)) ∙ ap (told blocks) e

pub kept_err : (kept : Kept) (r c : List ℕ) (fault : WalkFault) → count (whole_of node_of kept.nodes r) ≡ Err c → fault ≡ fault_in c (is_some (map.get kept.nodes c) || has kept.others c)
    → (blocks : BlockMap) → IsKeptOf is_node_block blocks kept → Fails (cause_of fault) (walked blocks r)
kept_err kept r c fault e f blocks k =
    let answer : walked blocks r ≡ Err (fault_at c (map.get blocks c)) = ap (λ x. told blocks (count x)) (sym (whole_same kept.nodes blocks k.nodes_are r)) ∙ ap (told blocks) e in
    let same : fault ≡ fault_at c (map.get blocks c) = f ∙ told_at blocks kept.nodes kept.others c (k.nodes_are c) (k.others_are c) in
    let G : Result ℕ WalkFault → Type 0 = λ x. Fails (cause_of fault) x in
    subst G (sym (answer ∙ ap (λ x. Err x) (sym same))) (itself fault)
  where
    itself : (fault : WalkFault) → Fails {Y = ℕ} (cause_of fault) (Err fault)
    itself (WalkFault.NoBlock c) = refl
    itself (WalkFault.BadNode c) = refl
    itself WalkFault.Memory = tt

pub kept_given : (kept : Kept) (r : List ℕ) (fault : CountFault) → Fails (link_at_fault fault) (count (whole_of node_of kept.nodes r))
    → (blocks : BlockMap) → IsKeptOf is_node_block blocks kept → Fails (cause_of (kept_fault_of kept fault)) (walked blocks r)
kept_given kept r (CountFault.At c) g blocks k = kept_err kept r c (kept_fault_of kept (CountFault.At c)) g refl blocks k
kept_given kept r CountFault.Memory g blocks k = tt
