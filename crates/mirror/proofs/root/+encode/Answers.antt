use Rattle.std.proofs.Common.{◌≡◌, ℕ, suc, ◌-◌, List, Some, sym, ap, ◌∙◌, arith}
use Rattle.at_cid.specs.Link.{cid}
use Rattle.mirror.proofs.Parts.{hole_at, node_at, none_below, none_empty, some_items}
use Rattle.mirror.proofs.root.+encode.Goals as goal

pub part_link-returns-then-layer-eq0 : goal.part_link-returns-then-layer-eq0
part_link-returns-then-layer-eq0 t c = sym (none_below c.args.layer c.args.items.now c.if-layer-eq0.true)

pub part_link-returns-then-is_empty : goal.part_link-returns-then-is_empty
part_link-returns-then-is_empty t c = sym (none_empty c.args.layer c.args.items.now c.if-is_empty.ensures)

pub part_link-returns-in-Some : goal.part_link-returns-in-Some
part_link-returns-in-Some t c =
    let behind : c.args.layer ≡ suc (c.args.layer - 1) = omega (arith, c.if-layer-eq0.false) in
    sym (hole_at c.args.layer (c.args.layer - 1) c.args.items.now c.in-Some.link behind (some_items c.args.items.now c.if-is_empty.ensures) (sym c.lone_hole.ensures ∙ c.in-Some.is))

pub part_link-returns : goal.part_link-returns
part_link-returns t c =
    let behind : c.args.layer ≡ suc (c.args.layer - 1) = omega (arith, c.if-layer-eq0.false) in
    ap (λ (l : List ℕ). Some l) (c.cid_of.ensures ∙ ap (λ (b : List ℕ). cid b) (c.as_slice.ensures.value ∙ c.in_ok-block.ensures))
    ∙ sym (node_at c.args.layer (c.args.layer - 1) c.args.items.now behind (some_items c.args.items.now c.if-is_empty.ensures) (sym c.lone_hole.ensures ∙ c.in_default.is))
