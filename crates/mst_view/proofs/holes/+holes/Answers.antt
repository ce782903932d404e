use Rattle.std.proofs.Common.{◌≡◌, suc, List, ◌++◌, drop, sym, ap, ◌∙◌, subst, arith, append_assoc, add-one}
use Rattle.mst_view.specs.Value.{Layered}
use Rattle.mst_view.specs.declared.branch.Part.{Part}
use Rattle.mst_view.specs.Layered.{AllAt, below_items, rest_items}
use Rattle.mst_view.proofs.HoleLinks.{links_joined, links_at, part_lies}
use Rattle.mst_view.proofs.holes.+holes.Goals as goal
use Rattle.mst_view.specs.HoleLinks.{hole_links}

pub links_of-loop-part-init : goal.links_of-loop-part-init
links_of-loop-part-init t c =
    let h = c.branch.inside.layer in let first = c.branch.inside.first in let ps = c.deref-part-items.result.now in let old = c.args.links.now.items in
    let layer = ap (λ (v : Layered). v.layer) c.branch.view_is in
    ap (λ x. x ++ hole_links (rest_items c.args.branch.now.layer ps)) c.in_ok-links_below.ensures
    ∙ append_assoc old (hole_links (below_items h first)) (hole_links (rest_items c.args.branch.now.layer ps))
    ∙ ap (λ n. old ++ (hole_links (below_items h first) ++ hole_links (rest_items n ps))) (sym layer)
    ∙ ap (λ x. old ++ x) (sym (links_joined (below_items h first) (rest_items h ps)) ∙ ap (λ x. hole_links (below_items h first ++ rest_items h x)) c.deref-part-items.ensures.value ∙ ap (λ (v : Layered). hole_links v.items) c.branch.view_is)

pub links_of-links_below-requires-in-loop-part : goal.links_of-links_below-requires-in-loop-part
links_of-links_below-requires-in-loop-part t c =
    let ps = c.deref-part-items.result.now in let layer = ap (λ (v : Layered). v.layer) c.branch.view_is in
    let W : List Part → Type 0 = λ x. AllAt c.branch.inside.layer x in
    (omega arith, part_lies c.branch.inside.layer ps c.loop-part.part-index c.part-item.result (subst W (sym c.deref-part-items.ensures.value) c.branch.invariant.all_at) c.loop-part-test.true c.part-item.is)

pub links_of-loop-part-preserved : goal.links_of-loop-part-preserved
links_of-loop-part-preserved t c =
    let n = c.args.branch.now.layer in let h = c.branch.inside.layer in let ps = c.deref-part-items.result.now in let i = c.loop-part.part-index in let p = c.part-item.result in
    let layer : h ≡ n = ap (λ (v : Layered). v.layer) c.branch.view_is in
    let more = hole_links (rest_items n (drop (suc i) ps)) in
    let added : c.links_below-in-loop-part.new.links.items ≡ c.loop-part.links.items ++ hole_links (below_items n p.below) = c.in_ok-links_below-2.ensures ∙ ap (λ m. c.loop-part.links.items ++ hole_links (below_items m p.below)) layer in
    rw add-one (ap (λ x. x ++ more) added ∙ append_assoc c.loop-part.links.items (hole_links (below_items n p.below)) more
    ∙ ap (λ x. c.loop-part.links.items ++ x) (sym (links_at n ps i p c.loop-part-test.true c.part-item.is)) ∙ c.loop-part.invariant)
