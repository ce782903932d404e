use Rattle.std.proofs.Common.{◌≡◌, ◌∙◌, ◌∷◌, ◌+◌, List, drop, max, sym, ap, arith}
use Rattle.std.proofs.lemmas.List.{drop_more}
use Rattle.mst_list.specs.declared.item.Item.{Item}
use Rattle.mst_node.specs.Trees.{top_layer}
use Rattle.mirror.proofs.Parts.{greater_one, top_more}
use Rattle.mirror.specs.Placed.{item_height}
use Rattle.mirror.proofs.root.top_layer.Goals as goal

pub loop-item-preserved : goal.loop-item-preserved
loop-item-preserved c =
    let xs = c.args.items.now in let i = c.loop-item.item-index in let x = c.item-item.result in
    let next = drop_more xs i x (omega arith) ∙ ap (λ (y : Item). y ∷ drop (i + 1) xs) (sym c.item-item.is) in
    let step : top_layer (drop i xs) ≡ max (item_height x) (top_layer (drop (i + 1) xs)) = ap top_layer next ∙ top_more x (drop (i + 1) xs) in
    let greater : c.max-top.result ≡ max c.loop-item.top c.height.result = c.max-top.ensures ∙ greater_one c.loop-item.top c.height.result in
    record {
      value = omega (arith, step, c.loop-item.invariant.value, greater, c.height.ensures.value);
      most = omega (arith, c.loop-item.invariant.most, greater, c.height.ensures.most);
    }
