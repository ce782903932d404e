use Rattle.std.proofs.Common.{◌≡◌, suc, List, [], ◌∷◌, ◌++◌, drop, sym, ap, ◌∙◌, subst, arith, drop-cons, add-one}
use Rattle.mst_list.specs.declared.item.Item.TheVariants.{Key}
use Rattle.mst_list.specs.Height.{height}
use Rattle.mst_view.specs.declared.branch.Part.{Part}
use Rattle.mst_view.specs.Layered.{AllAt, below_items, rest_items}
use Rattle.mst_view.proofs.HoleLinks.{part_lies}
use Rattle.mst_view.proofs.Steps.{at_pushed, items_pushed, part_at_height}
use Rattle.mst_view.proofs.copying.+copy.Goals as goal

pub copy_rest-copy_below-requires : goal.copy_rest-copy_below-requires
copy_rest-copy_below-requires t c = (omega arith, part_lies c.args.layer c.args.parts.now c.loop-part.part-index c.part-item.result c.requires c.loop-part-test.true c.part-item.is)

pub copy_rest-loop-part-preserved : goal.copy_rest-loop-part-preserved
copy_rest-loop-part-preserved t c =
    let h = c.args.layer in let ps = c.args.parts.now in let i = c.loop-part.part-index in let p = c.part-item.result in let more = drop (suc i) ps in let rest = c.loop-part.rest.items in
    let here : drop i ps ≡ p ∷ more = drop-cons ps i p c.loop-part-test.true ∙ ap (λ y. y ∷ more) (sym c.part-item.is) in
    let q : Part = record { key = c.in_ok-key.key; value = p.value; below = c.in_ok-below.below } in
    let pushed : c.push.new.self.items ≡ rest ++ q ∷ [] = c.in_ok-push.ensures.items in
    let A : List Part → Type 0 = λ x. AllAt h x in
    rw add-one (record {
      at = subst A (sym pushed) (at_pushed h rest q c.loop-part.invariant.at (ap height c.in_ok-key.ensures ∙ part_at_height h ps i p c.requires c.loop-part-test.true c.part-item.is) c.in_ok-below.ensures.lies);
      items = ap (λ x. rest_items h x ++ rest_items h more) pushed ∙ items_pushed h rest q (rest_items h more)
          ∙ ap (λ k. rest_items h rest ++ (Key k p.value ∷ (below_items h c.in_ok-below.below ++ rest_items h more))) c.in_ok-key.ensures
          ∙ ap (λ x. rest_items h rest ++ (Key p.key p.value ∷ (x ++ rest_items h more))) c.in_ok-below.ensures.items
          ∙ ap (λ x. rest_items h rest ++ rest_items h x) (sym here) ∙ c.loop-part.invariant.items;
    })
