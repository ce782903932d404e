use Rattle.std.proofs.Common.{ℕ, List, sym, ap, subst, arith}
use Rattle.mst_list.specs.declared.item.Item.TheVariants.{Key}
use Rattle.mst_list.specs.Lists.{IsFormed, AreFormed}
use Rattle.mst_list.proofs.Fills.{formed_parts}
use Rattle.mst_view.specs.Value.{Layered}
use Rattle.mst_view.specs.declared.branch.Part.{Part}
use Rattle.mst_view.specs.Layered.{AllAt, below_items, rest_items}
use Rattle.mst_view.proofs.Forms.{part_formed}
use Rattle.mst_view.proofs.HoleLinks.{part_lies}
use Rattle.mst_view.proofs.listing.+list.Goals as goal

pub list_branch-list_below-requires : goal.list_branch-list_below-requires
list_branch-list_below-requires t c =
    let h = c.branch.inside.layer in let first = c.branch.inside.first in let parts = c.branch.inside.rest.items in
    let layer = ap (λ (v : Layered). v.layer) c.branch.view_is in
    let W : Layered → Type 0 = λ v. AreFormed v.items in
    (omega arith, (c.branch.invariant.first_lies, (formed_parts (below_items h first) (rest_items h parts) (subst W (sym c.branch.view_is) c.requires)).0))

pub list_branch-push-requires : goal.list_branch-push-requires
list_branch-push-requires t c =
    let h = c.branch.inside.layer in let first = c.branch.inside.first in let ps = c.deref-part-items.result.now in let p = c.part-item.result in
    let W : Layered → Type 0 = λ v. AreFormed v.items in let V : List Part → Type 0 = λ x. AreFormed (rest_items h x) in
    let formed = subst V (sym c.deref-part-items.ensures.value) (formed_parts (below_items h first) (rest_items h c.branch.inside.rest.items) (subst W (sym c.branch.view_is) c.requires)).1 in
    let K : List ℕ → Type 0 = λ k. IsFormed (Key k p.value) in
    subst K (sym c.in_ok-key.ensures) (part_formed h ps c.loop-part.part-index p formed c.loop-part-test.true c.part-item.is).0

pub list_branch-list_below-requires-in-loop-part : goal.list_branch-list_below-requires-in-loop-part
list_branch-list_below-requires-in-loop-part t c =
    let h = c.branch.inside.layer in let first = c.branch.inside.first in let ps = c.deref-part-items.result.now in let p = c.part-item.result in let i = c.loop-part.part-index in
    let layer = ap (λ (v : Layered). v.layer) c.branch.view_is in
    let W : Layered → Type 0 = λ v. AreFormed v.items in let V : List Part → Type 0 = λ x. AreFormed (rest_items h x) in let A : List Part → Type 0 = λ x. AllAt h x in
    let formed = subst V (sym c.deref-part-items.ensures.value) (formed_parts (below_items h first) (rest_items h c.branch.inside.rest.items) (subst W (sym c.branch.view_is) c.requires)).1 in
    (omega arith, (part_lies h ps i p (subst A (sym c.deref-part-items.ensures.value) c.branch.invariant.all_at) c.loop-part-test.true c.part-item.is, (part_formed h ps i p formed c.loop-part-test.true c.part-item.is).1))
