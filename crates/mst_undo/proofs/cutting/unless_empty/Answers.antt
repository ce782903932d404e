use Rattle.std.proofs.Common.{◌+◌, refl, sym, ap, ◌∙◌, subst}
use Rattle.mst_view.specs.Value.{Layered}
use Rattle.mst_view.specs.Layered.{IsAtLayer}
use Rattle.mst_view.specs.declared.branch.Below.TheVariants.{Empty}
use Rattle.mst_undo.specs.Cuts.{is_nothing, IsBelow}
use Rattle.mst_undo.proofs.Splits.{nothing_items, something_items}
use Rattle.mst_undo.proofs.cutting.unless_empty.Goals as goal

pub returns-then-is_nothing : goal.returns-then-is_nothing
returns-then-is_nothing c =
    let h = c.node.inside.layer in let first = c.node.inside.first in let parts = c.node.inside.rest.items in
    let P : Layered → Type 0 = λ v. IsBelow (v.layer + 1) v.items Empty in
    subst P (c.node.view_is ∙ c.deref-node.ensures) (nothing_items h first parts (ap (is_nothing first) (sym c.as_slice.ensures.value) ∙ sym c.is_nothing.ensures ∙ c.if-is_nothing.true))

pub returns : goal.returns
returns c =
    let h = c.node.inside.layer in let first = c.node.inside.first in let parts = c.node.inside.rest.items in
    let at = something_items h first parts c.node.invariant.first_lies c.node.invariant.all_at (ap (is_nothing first) (sym c.as_slice.ensures.value) ∙ sym c.is_nothing.ensures ∙ c.if-is_nothing.false) in
    let A : Layered → Type 0 = λ v. IsAtLayer v in
    record { lies = (refl, subst A (c.node.view_is ∙ c.deref-node.ensures) at); items = refl }
