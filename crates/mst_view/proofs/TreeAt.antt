-- The list that blocks hold under a root, or the link at fault, as it is read; what is read is a view, and what is named is at fault.
use Rattle.std.proofs.Common.{◌≡◌, ℕ, cond, true, false, List, refl, sym, ap, ◌∙◌, subst, Option, Some, None, Result, Ok, Err, ◌⊎◌, inl, inr}
use Rattle.std.specs.FinMap as map
use Rattle.std.specs.FinMap.{FinMap}
use Rattle.at_cid.specs.Link.{IsNodeLink}
use Rattle.at_cid.specs.Order.{key_cmp}
use Rattle.mst_list.specs.declared.item.Item.{Item}
use Rattle.mst_list.specs.Lists.{HolesDiffer}
use Rattle.mst_node.specs.Covers.{AreUnderNodeLinks}
use Rattle.mst_node.specs.FirstFault.{in_part}
use Rattle.mst_node.specs.Nodes.{Node, IsReader, IsSoundReader}
use Rattle.mst_node.specs.Reading.{node_of}
use Rattle.mst_node.specs.TreeReading.{go_on, or_missing, top_of}
use Rattle.mst_node.specs.Trees.{IsView}
use Rattle.mst_node.proofs.Blames.{top_blamed, top_named}
use Rattle.mst_node.proofs.Finds.{root_there, walk_found, walk_of, walk_once}
use Rattle.mst_node.proofs.Gives.{IsGiven, walk_given}
use Rattle.mst_node.proofs.Passes.{either, went_on, went_wrong}
use Rattle.mst_node.proofs.Readers.{node_of_is_reader}
use Rattle.std.specs.Str.{bytes_eq}
use Rattle.at_cid.specs.Distinct.{all_differ}
use Rattle.mst_view.specs.HoleLinks.{hole_links}
use Rattle.mst_view.specs.ViewFault.{IsAtFault}
use Rattle.mst_view.proofs.Doubled.{differ_true, true_differ}

-- the list that the blocks hold under r, whose block is b, or the link of the first block at fault;
-- r itself where no block is at fault and a hole's link stands twice
abbrev pub tree_at : (List ℕ → Option Node) → FinMap key_cmp (List ℕ) → List ℕ → List ℕ → Result (List Item) (List ℕ)
tree_at read B r b = go_on (top_of in_part read B r b) (λ F. cond (all_differ bytes_eq (hole_links F)) (Ok F) (Err r))

module _ (read : List ℕ → Option Node) (reader : IsSoundReader read) (B : FinMap key_cmp (List ℕ)) (under : AreUnderNodeLinks B) where
  -- the reading ends with what is read at the top, where the links of its holes differ
  pub top_read : (r b : List ℕ) (F : List Item) → tree_at read B r b ≡ Ok F → (top_of in_part read B r b ≡ Ok F) × (all_differ bytes_eq (hole_links F) ≡ true)
  top_read r b F e =
      let s = went_on (top_of in_part read B r b) (λ G. cond (all_differ bytes_eq (hole_links G)) (Ok G) (Err r)) F e in
      let d = differ_told s.0 s.2 in
      let R : List Item → Type 0 = λ z. (top_of in_part read B r b ≡ Ok z) × (all_differ bytes_eq (hole_links z) ≡ true) in
      subst R d.0 (s.1, d.1)
    where
      differ_told : (G : List Item) → cond (all_differ bytes_eq (hole_links G)) (Ok G) (Err r) ≡ Ok F → (G ≡ F) × (all_differ bytes_eq (hole_links G) ≡ true)
      differ_told G g =
          elim (all_differ bytes_eq (hole_links G)) as (λ t. all_differ bytes_eq (hole_links G) ≡ t → cond t (Ok G) (Err r) ≡ Ok F → (G ≡ F) × (all_differ bytes_eq (hole_links G) ≡ true)) [ true ↦ λ p q. (cc, p) | false ↦ λ p q. absurd (cc) ] refl g

  pub tree_told : (r b : List ℕ) (F : List Item) → IsNodeLink r → map.get B r ≡ Some b → tree_at read B r b ≡ Ok F → IsGiven read reader B under r b F
  tree_told r b F kind at e = walk_given read reader B under r b F kind at (top_read r b F e).0

  pub tree_given : (r b : List ℕ) (F : List Item) → IsNodeLink r → map.get B r ≡ Some b → tree_at read B r b ≡ Ok F → IsView B r F
  tree_given r b F kind at e =
      let w = (tree_told r b F kind at e).walk in
      record {
        well_laid = record { formed = w.formed; ascends = w.ascends; holes_differ = differ_true F (top_read r b F e).1; neighbours = w.neighbours; no_lone_hole = w.no_lone_hole };
        root_is = w.root_is;
        there = w.there;
        holes = w.holes;
      }

module _ (read : List ℕ → Option Node) (reader : IsReader read) (B : FinMap key_cmp (List ℕ)) where
  pub view_found : (r b : List ℕ) (F : List Item) → map.get B r ≡ Some b → IsView B r F → tree_at read B r b ≡ Ok F
  view_found r b F at v = rw (walk_found read reader B r b F at (walk_of B r F v), true_differ F v.well_laid.holes_differ) refl

  -- where the root's block is there, what is read of it is what is read under the root
  under_root : (r b : List ℕ) → map.get B r ≡ Some b → or_missing in_part 0 r (top_of in_part read B r) (map.get B r) ≡ top_of in_part read B r b
  under_root r b at = ap (or_missing in_part 0 r (top_of in_part read B r)) at

  pub tree_blamed : (r b f : List ℕ) → AreUnderNodeLinks B → IsNodeLink r → map.get B r ≡ Some b → tree_at read B r b ≡ Err f → IsAtFault B r f
  tree_blamed r b f under kind at e = go (went_wrong (top_of in_part read B r b) (λ F. cond (all_differ bytes_eq (hole_links F)) (Ok F) (Err r)) f e)
    where
      doubled : (F : List Item) → cond (all_differ bytes_eq (hole_links F)) (Ok F) (Err r) ≡ Err f → (f ≡ r) × (HolesDiffer F → ⊥)
      doubled F g =
          elim (all_differ bytes_eq (hole_links F)) as (λ t. all_differ bytes_eq (hole_links F) ≡ t → cond t (Ok F) (Err r) ≡ Err f → (f ≡ r) × (HolesDiffer F → ⊥)) [
            | true ↦ λ p q. absurd (cc)
            | false ↦ λ p q. (let same : r ≡ f = cc in sym same, λ d. let all = true_differ F d in absurd (cc))
          ] refl g

      go : (top_of in_part read B r b ≡ Err f) ⊎ ((F : List Item) × (top_of in_part read B r b ≡ Ok F) × (cond (all_differ bytes_eq (hole_links F)) (Ok F) (Err r) ≡ Err f)) → IsAtFault B r f
      go (inl x) = inl (top_blamed read reader in_part B r f (under_root r b at ∙ x))
      go (inr x) = let d = doubled x.0 x.2 in inr (d.0, (x.0, (walk_given read reader.sound B under r b x.0 kind at x.1).walk, d.1))

  pub tree_named : (r b f : List ℕ) → map.get B r ≡ Some b → IsAtFault B r f → tree_at read B r b ≡ Err f
  tree_named r b f at (inl first) = let top : top_of in_part read B r b ≡ Err f = sym (under_root r b at) ∙ top_named read reader in_part B r f first in rw top refl
  tree_named r b f at (inr d) = rw (walk_found read reader B r b d.1.0 at d.1.1, alike d.1.0 d.1.2) (ap Err (sym d.0))
    where
      alike : (F : List Item) → (HolesDiffer F → ⊥) → all_differ bytes_eq (hole_links F) ≡ false
      alike F none = elim (all_differ bytes_eq (hole_links F)) as (λ t. all_differ bytes_eq (hole_links F) ≡ t → t ≡ false) [ true ↦ λ p. absurd (none (differ_true F p)) | false ↦ λ p. refl ] refl

-- where a link is at fault, the root is there
pub fault_there : (B : FinMap key_cmp (List ℕ)) (r f : List ℕ) → IsAtFault B r f → (b : List ℕ) × (map.get B r ≡ Some b)
fault_there B r f (inl (inl none)) = absurd none
fault_there B r f (inl (inr x)) = (x.0, x.1)
fault_there B r f (inr d) = root_there B r d.1.0 d.1.1

-- where a link is at fault, no list is a view
pub fault_no_view : (B : FinMap key_cmp (List ℕ)) (r f : List ℕ) (F : List Item) → IsAtFault B r f → IsView B r F → ⊥
fault_no_view B r f F bad view =
    let there = fault_there B r f bad in
    let named = tree_named node_of node_of_is_reader B r there.0 f there.1 bad in
    let found = view_found node_of node_of_is_reader B r there.0 F there.1 view in absurd (cc)

-- one link alone is at fault
pub fault_once : (B : FinMap key_cmp (List ℕ)) (r f g : List ℕ) → IsAtFault B r f → IsAtFault B r g → f ≡ g
fault_once B r f g one other =
    let there = fault_there B r f one in
    let named = tree_named node_of node_of_is_reader B r there.0 f there.1 one in
    let again = tree_named node_of node_of_is_reader B r there.0 g there.1 other in cc

-- one list alone is a view
pub view_once : (B : FinMap key_cmp (List ℕ)) (r : List ℕ) (F G : List Item) → IsView B r F → IsView B r G → F ≡ G
view_once B r F G v w = walk_once node_of node_of_is_reader B r F G (walk_of B r F v) (walk_of B r G w)

-- a list is a view, or a link is at fault
pub view_or_fault : (B : FinMap key_cmp (List ℕ)) (r b : List ℕ) → AreUnderNodeLinks B → IsNodeLink r → map.get B r ≡ Some b → ((F : List Item) × IsView B r F) ⊎ ((c : List ℕ) × IsAtFault B r c)
view_or_fault B r b under kind at = go (either (tree_at node_of B r b))
  where
    go : ((F : List Item) × (tree_at node_of B r b ≡ Ok F)) ⊎ ((c : List ℕ) × (tree_at node_of B r b ≡ Err c)) → ((F : List Item) × IsView B r F) ⊎ ((c : List ℕ) × IsAtFault B r c)
    go (inl x) = inl (x.0, tree_given node_of node_of_is_reader.sound B under r b x.0 kind at x.1)
    go (inr x) = inr (x.0, tree_blamed node_of node_of_is_reader B r b x.0 under kind at x.1)

-- where the blocks haven't the root, no list is a view
pub no_block : (B : FinMap key_cmp (List ℕ)) (r : List ℕ) (F : List Item) → map.get B r ≡ None → IsView B r F → ⊥
no_block B r F gone v = let there = root_there B r F (walk_of B r F v) in let at = there.1 in absurd (cc)
