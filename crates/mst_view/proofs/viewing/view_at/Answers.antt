use Rattle.std.proofs.Common.{List, None, ap, sym, subst, ◌∙◌}
use Rattle.mst_node.specs.Fits.{top_fits}
use Rattle.mst_node.specs.Nodes.{EntriesAscend}
use Rattle.mst_view.specs.Layered.{entries_of}
use Rattle.mst_view.specs.declared.branch.Part.{Part}
use Rattle.mst_view.proofs.Steps.{ascends, nodes_under}
use Rattle.mst_view.proofs.Tops.{bad_told, unfit_told}
use Rattle.mst_view.proofs.viewing.view_at.Goals as goal

pub returns-in-Err-BadNode-clause-fault : goal.returns-in-Err-BadNode-clause-fault
returns-in-Err-BadNode-clause-fault c =
    let B = c.args.blocks.now in
    bad_told B (nodes_under B c.in-Some.ensures.linked) c.args.root c.in-Some.block.now c.requires (sym c.in-Some.ensures.is) (c.in-Err-BadNode.ensures.none c.in-Err-BadNode.field-0-is)

pub parts_top-requires-clause-ascend : goal.parts_top-requires-clause-ascend
parts_top-requires-clause-ascend c =
    let E : List Part → Type 0 = λ x. EntriesAscend None (entries_of x) in
    subst E (sym c.as_slice-2.ensures.value) (ascends c.in-Some.block.now (c.in-Ok.parts.0, entries_of c.in-Ok.parts.1.items) c.in-Ok.ensures.told)

pub returns-else-parts_top-clause-fault : goal.returns-else-parts_top-clause-fault
returns-else-parts_top-clause-fault c =
    let B = c.args.blocks.now in let left = c.in-Ok.parts.0 in
    unfit_told B (nodes_under B c.in-Some.ensures.linked) c.args.root c.in-Some.block.now c.requires (sym c.in-Some.ensures.is) (left, entries_of c.in-Ok.parts.1.items) c.in-Ok.ensures.told
    (ap (λ x. top_fits (left, entries_of x)) (sym c.as_slice-2.ensures.value) ∙ sym c.parts_top.ensures ∙ c.if-parts_top.false)
