use Rattle.std.proofs.Common.{◌≡◌, suc, List, ◌++◌, drop, map, sym, ap, ◌∙◌, subst, arith, append_assoc, add-one}
use Rattle.std.proofs.lemmas.List.{map-append}
use Rattle.at_car.specs.Links.{first_word}
use Rattle.mst_view.specs.Value.{Layered}
use Rattle.mst_view.specs.declared.branch.Part.{Part}
use Rattle.mst_view.specs.Layered.{AllAt, below_items, rest_items}
use Rattle.mst_view.specs.HoleLinks.{hole_links}
use Rattle.mst_view.proofs.HoleLinks.{links_joined, links_at, part_lies}
use Rattle.mst_view.proofs.beginning.+words.Goals as goal

pub words_of-loop-part-init : goal.words_of-loop-part-init
words_of-loop-part-init t c =
    let h = c.branch.inside.layer in let first = hole_links (below_items h c.branch.inside.first) in let ps = c.deref-part-items.result.now in let old = c.args.words.now.items in
    let layer = ap (λ (v : Layered). v.layer) c.branch.view_is in let rest = hole_links (rest_items h ps) in
    ap (λ x. x ++ map first_word (hole_links (rest_items c.args.branch.now.layer ps))) c.in_ok-words_below.ensures
    ∙ append_assoc old (map first_word first) (map first_word (hole_links (rest_items c.args.branch.now.layer ps)))
    ∙ ap (λ n. old ++ (map first_word first ++ map first_word (hole_links (rest_items n ps)))) (sym layer)
    ∙ ap (λ x. old ++ x) (sym (map-append first_word first rest)
    ∙ ap (map first_word) (sym (links_joined (below_items h c.branch.inside.first) (rest_items h ps)) ∙ ap (λ x. hole_links (below_items h c.branch.inside.first ++ rest_items h x)) c.deref-part-items.ensures.value ∙ ap (λ (v : Layered). hole_links v.items) c.branch.view_is))

pub words_of-words_below-requires-in-loop-part : goal.words_of-words_below-requires-in-loop-part
words_of-words_below-requires-in-loop-part t c =
    let ps = c.deref-part-items.result.now in let layer = ap (λ (v : Layered). v.layer) c.branch.view_is in
    let W : List Part → Type 0 = λ x. AllAt c.branch.inside.layer x in
    (omega arith, part_lies c.branch.inside.layer ps c.loop-part.part-index c.part-item.result (subst W (sym c.deref-part-items.ensures.value) c.branch.invariant.all_at) c.loop-part-test.true c.part-item.is)

pub words_of-loop-part-preserved : goal.words_of-loop-part-preserved
words_of-loop-part-preserved t c =
    let n = c.args.branch.now.layer in let h = c.branch.inside.layer in let ps = c.deref-part-items.result.now in let i = c.loop-part.part-index in let p = c.part-item.result in
    let layer : h ≡ n = ap (λ (v : Layered). v.layer) c.branch.view_is in let words = c.loop-part.words.items in
    let here = hole_links (below_items n p.below) in let more = hole_links (rest_items n (drop (suc i) ps)) in
    let added : c.words_below-in-loop-part.new.words.items ≡ words ++ map first_word here = c.in_ok-words_below-2.ensures ∙ ap (λ m. words ++ map first_word (hole_links (below_items m p.below))) layer in
    rw add-one (ap (λ x. x ++ map first_word more) added ∙ append_assoc words (map first_word here) (map first_word more)
    ∙ ap (λ x. words ++ x) (sym (map-append first_word here more) ∙ ap (map first_word) (sym (links_at n ps i p c.loop-part-test.true c.part-item.is))) ∙ c.loop-part.invariant)
