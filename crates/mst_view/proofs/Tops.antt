-- Top nodes.
use Rattle.std.proofs.Common.{◌≡◌, ℕ, true, false, ◌&&◌, List, [], ◌∷◌, refl, sym, ap, ◌∙◌, Option, Some, None, Ok, Err}
use Rattle.std.specs.FinMap as map
use Rattle.std.specs.FinMap.{FinMap}
use Rattle.at_cid.specs.Link.{IsNodeLink}
use Rattle.mst_list.specs.declared.item.Item.{Item}
use Rattle.at_cid.specs.Order.{key_cmp}
use Rattle.mst_list.specs.Lists.{IsWellLaid}
use Rattle.mst_node.specs.declared.entry.Entry.{Entry}
use Rattle.mst_node.specs.NodeBytes.{node_bytes}
use Rattle.mst_node.specs.Trees.{top_layer}
use Rattle.mst_node.specs.Nodes.{IsChildLink, Node, IsSoundReader}
use Rattle.mst_node.specs.NodeFaults.{AreEntriesAt, layer_of}
use Rattle.mst_node.specs.FirstFault.{in_part}
use Rattle.mst_node.specs.Fits.{may_hang, may_top, top_fits, entries_fit}
use Rattle.mst_node.specs.TreeReading.{parts_of, part_at}
use Rattle.mst_node.proofs.Steps.{at_zero}
use Rattle.mst_node.proofs.Told.{both_true}
use Rattle.mst_node.proofs.Passes.{fit_true, hang_true}
use Rattle.mst_view.proofs.TreeAt.{tree_at, tree_blamed, tree_given, tree_told}
use Rattle.at_cid.specs.Memory.{Fails}
use Rattle.mst_node.specs.Reading.{node_of}
use Rattle.mst_node.proofs.Readers.{node_of_is_reader}
use Rattle.mst_view.specs.Steps.{link_at_fault}
use Rattle.mst_view.specs.ViewFault.{IsAtFault, IsViewFault, fault_of}
use Rattle.mst_view.specs.declared.reading.ReadFault.{ReadFault}
use Rattle.mst_node.specs.Covers.{AreUnderNodeLinks}
use Rattle.std.specs.Str.{bytes_eq}
use Rattle.at_cid.specs.Distinct.{all_differ}
use Rattle.mst_view.specs.HoleLinks.{hole_links}

module _ (read : List ℕ → Option Node) (sound : IsSoundReader read) (B : FinMap key_cmp (List ℕ)) (under : AreUnderNodeLinks B) where
  -- what is known of a top node that passes
  pub record IsTopKnown (b : List ℕ) (left : Option (List ℕ)) (es : List Entry) : Type 0 where
    pub encoded : b ≡ node_bytes left es
    pub kind : IsChildLink left
    pub entries : AreEntriesAt (layer_of es) None None es
    pub lowest : layer_of es ≡ 0 → left ≡ None

  pub top_known : (b : List ℕ) (left : Option (List ℕ)) (es : List Entry) → read b ≡ Some (left, es) → top_fits (left, es) ≡ true → IsTopKnown b left es
  top_known b left es e f =
      let g = sound.gives b (left, es) e in
      let p = both_true (may_hang (layer_of es) left && may_top (left, es)) (entries_fit (layer_of es) None None es) f in
      let q = both_true (may_hang (layer_of es) left) (may_top (left, es)) p.0 in
      record { encoded = g.0; kind = g.1; entries = fit_true (layer_of es) None None es g.2 p.1; lowest = hang_true (layer_of es) left q.0 }

  pub tree_of : (r b : List ℕ) (n : Node) (F : List Item) → read b ≡ Some n → top_fits n ≡ true → parts_of (part_at in_part read B (layer_of n.1)) None None n ≡ Ok F → all_differ bytes_eq (hole_links F) ≡ true → tree_at read B r b ≡ Ok F
  tree_of r b n F e f p d = rw (e, f, p, d) refl

  pub empty_tree : (r b : List ℕ) (left : Option (List ℕ)) (es : List Entry) → read b ≡ Some (left, es) → top_fits (left, es) ≡ true → es ≡ [] → tree_at read B r b ≡ Ok []
  empty_tree r b left [] e f n = rw (e, f, at_zero in_part read B None None left) refl
  empty_tree r b left (x ∷ es) e f n = absurd (cc)

  pub laid_top : (r b : List ℕ) (n : Node) (F : List Item) → IsNodeLink r → map.get B r ≡ Some b → read b ≡ Some n → tree_at read B r b ≡ Ok F → IsWellLaid F × (top_layer F ≡ layer_of n.1)
  laid_top r b n F kind at e t =
      let g = tree_told read sound B under r b F kind at t in
      let same : Some n ≡ Some g.node = sym e ∙ g.reads in
      let one : n ≡ g.node = cc in
      ((tree_given read sound B under r b F kind at t).well_laid, g.layer ∙ ap (λ (x : Node). layer_of x.1) (sym one))

-- what is told where the reading stops at the top or below it
module _ (B : FinMap key_cmp (List ℕ)) (under : AreUnderNodeLinks B) (r b : List ℕ) (kind : IsNodeLink r) (at : map.get B r ≡ Some b) where
  pub bad_told : node_of b ≡ None → IsAtFault B r r
  bad_told e = let read_is : tree_at node_of B r b ≡ Err r = rw e refl in tree_blamed node_of node_of_is_reader B r b r under kind at read_is

  pub unfit_told : (n : Node) → node_of b ≡ Some n → top_fits n ≡ false → IsAtFault B r r
  unfit_told n e f = let read_is : tree_at node_of B r b ≡ Err r = rw (e, f) refl in tree_blamed node_of node_of_is_reader B r b r under kind at read_is

  pub doubled_told : (n : Node) (F : List Item) → node_of b ≡ Some n → top_fits n ≡ true → parts_of (part_at in_part node_of B (layer_of n.1)) None None n ≡ Ok F → all_differ bytes_eq (hole_links F) ≡ false → IsAtFault B r r
  doubled_told n F e f p d = let read_is : tree_at node_of B r b ≡ Err r = rw (e, f, p, d) refl in tree_blamed node_of node_of_is_reader B r b r under kind at read_is

  pub parts_told : (n : Node) (fault : ReadFault) → node_of b ≡ Some n → top_fits n ≡ true → Fails (link_at_fault fault) (parts_of (part_at in_part node_of B (layer_of n.1)) None None n) → IsViewFault B r (fault_of fault)
  parts_told n (ReadFault.BadNode c) e f p = let read_is : tree_at node_of B r b ≡ Err c = rw (e, f, p) refl in tree_blamed node_of node_of_is_reader B r b c under kind at read_is
  parts_told n ReadFault.Memory e f p = tt
