use Rattle.std.proofs.Common.{◌≡◌, ◌-◌, ◌<◌, sym, ap, ◌∙◌, Some, Ok, arith}
use Rattle.std.specs.Prelude.{option_map}
use Rattle.mst_node.specs.Reading.{node_of}
use Rattle.mst_node.specs.FirstFault.{in_whole}
use Rattle.mst_node.specs.Fits.{node_fits}
use Rattle.mst_node.specs.TreeReading.{parts_of, part_at}
use Rattle.mst_node.proofs.Steps.{at_block, at_lack, block_bad, block_unfit, block_fit}
use Rattle.mst_whole.specs.Counting.{count}
use Rattle.mst_whole.proofs.Steps.{none_at_zero, none_at_none, given_on}
use Rattle.mst_whole.proofs.counting.+count.Goals as goal

pub count_below-returns-then-layer-eq0-clause-gives : goal.count_below-returns-then-layer-eq0-clause-gives
count_below-returns-then-layer-eq0-clause-gives t c =
    none_at_zero node_of c.args.blocks.now c.args.layer (option_map (λ k. k.now) c.args.low) (option_map (λ k. k.now) c.args.high) c.args.link c.if-layer-eq0.true

pub count_below-returns-in_default-clause-gives : goal.count_below-returns-in_default-clause-gives
count_below-returns-in_default-clause-gives t c =
    let low = option_map (λ k. k.now) c.args.low in let high = option_map (λ k. k.now) c.args.high in
    ap (λ l. count (part_at in_whole node_of c.args.blocks.now c.args.layer low high l)) c.in_default.is ∙ none_at_none node_of c.args.blocks.now c.args.layer low high

pub count_below-returns-in_default-get-clause-gives : goal.count_below-returns-in_default-get-clause-gives
count_below-returns-in_default-get-clause-gives t c =
    let low = option_map (λ k. k.now) c.args.low in let high = option_map (λ k. k.now) c.args.high in let h = c.args.layer in let B = c.args.blocks.now in
    let over : 0 < h = omega (arith, c.if-layer-eq0.false) in
    ap (λ l. count (part_at in_whole node_of B h low high l)) c.in-Some.is ∙ ap count (at_lack node_of B h low high c.in-Some.link over (sym c.in_default-get.ensures.is))

pub count_below-returns-in-Err-BadNode-clause-gives : goal.count_below-returns-in-Err-BadNode-clause-gives
count_below-returns-in-Err-BadNode-clause-gives t c =
    let low = option_map (λ k. k.now) c.args.low in let high = option_map (λ k. k.now) c.args.high in let h = c.args.layer in let B = c.args.blocks.now in let b = c.in-Some-get.block.now in
    let over : 0 < h = omega (arith, c.if-layer-eq0.false) in
    ap (λ l. count (part_at in_whole node_of B h low high l)) c.in-Some.is
    ∙ ap count (at_block in_whole node_of B h low high c.in-Some.link b over (sym c.in-Some-get.ensures.is)
    ∙ block_bad (node_fits (h - 1) low high) (parts_of (part_at in_whole node_of B (h - 1)) low high) c.in-Some.link (node_of b) (c.in-Err-BadNode.ensures.none c.in-Err-BadNode.field-0-is))

pub count_below-returns-then-not-node_fits-clause-gives : goal.count_below-returns-then-not-node_fits-clause-gives
count_below-returns-then-not-node_fits-clause-gives t c =
    let low = option_map (λ k. k.now) c.args.low in let high = option_map (λ k. k.now) c.args.high in let h = c.args.layer in let B = c.args.blocks.now in let b = c.in-Some-get.block.now in
    let over : 0 < h = omega (arith, c.if-layer-eq0.false) in
    ap (λ l. count (part_at in_whole node_of B h low high l)) c.in-Some.is
    ∙ ap count (at_block in_whole node_of B h low high c.in-Some.link b over (sym c.in-Some-get.ensures.is)
    ∙ block_unfit (node_fits (h - 1) low high) (parts_of (part_at in_whole node_of B (h - 1)) low high) c.in-Some.link (node_of b) c.in-Ok.node c.in-Ok.ensures.told (sym c.node_fits.ensures ∙ c.if-not-node_fits.true))

pub count_below-returns-clause-gives : goal.count_below-returns-clause-gives
count_below-returns-clause-gives t c =
    let low = option_map (λ k. k.now) c.args.low in let high = option_map (λ k. k.now) c.args.high in let h = c.args.layer in let B = c.args.blocks.now in let b = c.in-Some-get.block.now in
    let left = c.node.inside.left in let es = c.node.inside.entries in
    let over : 0 < h = omega (arith, c.if-layer-eq0.false) in
    let node_is : (left, es) ≡ c.in-Ok.node = c.node.view_is in
    let reads : node_of b ≡ Some (left, es) = c.in-Ok.ensures.told ∙ ap Some (sym node_is) in
    let fits = ap (node_fits (h - 1) low high) node_is ∙ sym c.node_fits.ensures ∙ c.if-not-node_fits.false in
    let whole : count (part_at in_whole node_of B h low high c.args.link) ≡ count (parts_of (part_at in_whole node_of B (h - 1)) low high (left, c.as_slice.result.now)) =
    ap (λ l. count (part_at in_whole node_of B h low high l)) c.in-Some.is
    ∙ ap count (at_block in_whole node_of B h low high c.in-Some.link b over (sym c.in-Some-get.ensures.is)
    ∙ block_fit (node_fits (h - 1) low high) (parts_of (part_at in_whole node_of B (h - 1)) low high) c.in-Some.link (node_of b) (left, es) reads fits
    ∙ ap (λ x. parts_of (part_at in_whole node_of B (h - 1)) low high (left, x)) (sym c.as_slice.ensures)) in
    given_on c.count_parts.result _ _ whole c.count_parts.ensures.gives
