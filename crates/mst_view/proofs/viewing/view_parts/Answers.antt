use Rattle.std.proofs.Common.{◌≡◌, List, [], ◌∷◌, length, refl, sym, ap, ◌∙◌, subst, None, Ok, arith}
use Rattle.std.proofs.lemmas.Bool.Decides.{nat_tests}
use Rattle.at_cid.specs.Link.{cid}
use Rattle.mst_list.specs.declared.item.Item.{Item}
use Rattle.mst_node.specs.Trees.{IsView}
use Rattle.mst_node.specs.NodeFaults.{layer_of}
use Rattle.mst_node.specs.Reading.{node_of}
use Rattle.mst_node.specs.FirstFault.{in_part}
use Rattle.mst_node.specs.TreeReading.{parts_of, part_at}
use Rattle.mst_view.specs.Layered.{entries_of}
use Rattle.mst_view.specs.declared.branch.Part.{Part}
use Rattle.mst_view.specs.Steps.{link_at_fault}
use Rattle.mst_view.specs.ViewFault.{IsViewFault}
use Rattle.mst_view.specs.declared.viewing.ViewFault.{ViewFault}
use Rattle.mst_view.proofs.Steps.{sound, nodes_under, hang_of, fails_on}
use Rattle.mst_view.proofs.TreeAt.{tree_at, tree_given}
use Rattle.mst_view.proofs.Tops.{top_known, tree_of, empty_tree, laid_top, parts_told, doubled_told}
use Rattle.mst_view.proofs.viewing.view_parts.Goals as goal

nil_of : (xs : List Part) → length xs ≡ 0 → entries_of xs ≡ []
nil_of [] e = refl
nil_of (x ∷ xs) e = absurd (omega arith)

pub returns-then-is_empty-clause-view : goal.returns-then-is_empty-clause-view
returns-then-is_empty-clause-view c =
    let B = c.args.blocks.now in let r = c.args.root in let left = c.args.left in let es = entries_of c.args.parts.items in let there = c.requires.there in
    let under = nodes_under B c.requires.linked in
    let V : List Item → Type 0 = λ x. IsView B r x in
    subst V (sym c.from_top.ensures) (tree_given node_of sound B under r there.0 [] c.requires.kind there.1
    (empty_tree node_of sound B under r there.0 left es there.2 c.requires.fits (nil_of c.args.parts.items (grind (arith, nat_tests, c.is_empty.ensures, c.if-is_empty.true)))))

pub read_branch-requires-clause-kind : goal.read_branch-requires-clause-kind
read_branch-requires-clause-kind c =
    let B = c.args.blocks.now in let left = c.args.left in let es = entries_of c.args.parts.items in let there = c.requires.there in
    (top_known node_of sound B (nodes_under B c.requires.linked) there.0 left es there.2 c.requires.fits).kind

pub read_branch-requires-clause-lowest : goal.read_branch-requires-clause-lowest
read_branch-requires-clause-lowest c =
    let B = c.args.blocks.now in let left = c.args.left in let es = entries_of c.args.parts.items in let there = c.requires.there in
    let k = top_known node_of sound B (nodes_under B c.requires.linked) there.0 left es there.2 c.requires.fits in
    λ e. k.lowest (sym c.requires.layer ∙ e)

pub read_branch-requires-clause-hang : goal.read_branch-requires-clause-hang
read_branch-requires-clause-hang c =
    let B = c.args.blocks.now in let left = c.args.left in let es = entries_of c.args.parts.items in let there = c.requires.there in
    let k = top_known node_of sound B (nodes_under B c.requires.linked) there.0 left es there.2 c.requires.fits in
    let layer : c.args.layer ≡ layer_of es = c.requires.layer in
    rw layer (hang_of (layer_of es) None None es k.entries)

pub read_branch-requires-clause-link_is : goal.read_branch-requires-clause-link_is
read_branch-requires-clause-link_is c =
    let B = c.args.blocks.now in let left = c.args.left in let es = entries_of c.args.parts.items in let there = c.requires.there in
    let under = nodes_under B c.requires.linked in
    let k = top_known node_of sound B under there.0 left es there.2 c.requires.fits in
    under c.args.root there.0 c.requires.kind there.1 ∙ ap cid k.encoded

pub from_top-requires-in-Ok-true : goal.from_top-requires-in-Ok-true
from_top-requires-in-Ok-true c =
    let B = c.args.blocks.now in let r = c.args.root in let left = c.args.left in let es = entries_of c.args.parts.items in let there = c.requires.there in let F = c.in-Ok.branch.items in
    let under = nodes_under B c.requires.linked in
    let layer : c.args.layer ≡ layer_of es = c.requires.layer in
    let parts : parts_of (part_at in_part node_of B (layer_of es)) None None (left, es) ≡ Ok F =
    ap (λ m. parts_of (part_at in_part node_of B m) None None (left, es)) (sym layer) ∙ c.in-Ok.ensures.gives in
    let reads = there.2 in
    let tree : tree_at node_of B r there.0 ≡ Ok F = tree_of node_of sound B under r there.0 (left, es) F reads c.requires.fits parts (sym c.in-Ok-true.ensures ∙ c.in-Ok-true.field-0-test) in
    let g = laid_top node_of sound B under r there.0 (left, es) F c.requires.kind there.1 reads tree in
    (g.0, g.1 ∙ sym layer ∙ sym c.in-Ok.ensures.layer)

pub returns-in-Ok-true-clause-view : goal.returns-in-Ok-true-clause-view
returns-in-Ok-true-clause-view c =
    let B = c.args.blocks.now in let r = c.args.root in let left = c.args.left in let es = entries_of c.args.parts.items in let there = c.requires.there in let F = c.in-Ok.branch.items in
    let under = nodes_under B c.requires.linked in
    let layer : c.args.layer ≡ layer_of es = c.requires.layer in
    let parts : parts_of (part_at in_part node_of B (layer_of es)) None None (left, es) ≡ Ok F =
    ap (λ m. parts_of (part_at in_part node_of B m) None None (left, es)) (sym layer) ∙ c.in-Ok.ensures.gives in
    let tree : tree_at node_of B r there.0 ≡ Ok F = tree_of node_of sound B under r there.0 (left, es) F there.2 c.requires.fits parts (sym c.in-Ok-true.ensures ∙ c.in-Ok-true.field-0-test) in
    let V : List Item → Type 0 = λ x. IsView B r x in
    subst V (sym c.from_top-in-Ok-true.ensures) (tree_given node_of sound B under r there.0 F c.requires.kind there.1 tree)

pub returns-in-Err-clause-fault : goal.returns-in-Err-clause-fault
returns-in-Err-clause-fault c =
    let B = c.args.blocks.now in let r = c.args.root in let left = c.args.left in let es = entries_of c.args.parts.items in let there = c.requires.there in
    let layer : c.args.layer ≡ layer_of es = c.requires.layer in
    let whole : parts_of (part_at in_part node_of B (layer_of es)) None None (left, es) ≡ parts_of (part_at in_part node_of B c.args.layer) None None (left, es) =
    ap (λ m. parts_of (part_at in_part node_of B m) None None (left, es)) (sym layer) in
    let told = parts_told B (nodes_under B c.requires.linked) r there.0 c.requires.kind there.1 (left, es) c.in-Err.fault there.2 c.requires.fits
    (fails_on (link_at_fault c.in-Err.fault) (parts_of (part_at in_part node_of B (layer_of es)) None None (left, es)) (parts_of (part_at in_part node_of B c.args.layer) None None (left, es)) whole c.in-Err.ensures.gives) in
    let V : ViewFault → Type 0 = λ x. IsViewFault B r x in
    subst V (sym c.fault_of.ensures) told

pub returns-in-Ok-false-clause-fault : goal.returns-in-Ok-false-clause-fault
returns-in-Ok-false-clause-fault c =
    let B = c.args.blocks.now in let r = c.args.root in let left = c.args.left in let es = entries_of c.args.parts.items in let there = c.requires.there in let F = c.in-Ok.branch.items in
    let layer : c.args.layer ≡ layer_of es = c.requires.layer in
    let parts : parts_of (part_at in_part node_of B (layer_of es)) None None (left, es) ≡ Ok F =
    ap (λ m. parts_of (part_at in_part node_of B m) None None (left, es)) (sym layer) ∙ c.in-Ok.ensures.gives in
    doubled_told B (nodes_under B c.requires.linked) r there.0 c.requires.kind there.1 (left, es) F there.2 c.requires.fits parts (sym c.in-Ok-false.ensures ∙ c.in-Ok-false.field-0-test)
