use Rattle.std.proofs.Common.{◌≡◌, ◌-◌, List, true, ◌&&◌, sym, ap, ◌∙◌, subst, Some, None, Ok, arith}
use Rattle.std.specs.Prelude.{option_map}
use Rattle.std.proofs.lemmas.Result.{err_from_is_err_and}
use Rattle.at_cid.specs.Link.{cid}
use Rattle.mst_node.specs.NodeFaults.{next_bound}
use Rattle.mst_node.specs.Nodes.{EntriesAscend}
use Rattle.mst_node.specs.FirstFault.{in_part}
use Rattle.mst_node.specs.Fits.{may_hang, is_some_node, entries_fit, node_fits}
use Rattle.mst_node.specs.TreeReading.{parts_of, part_at}
use Rattle.mst_view.specs.Value.{Layered}
use Rattle.mst_view.specs.declared.branch.Part.{Part}
use Rattle.mst_view.specs.Layered.{LiesBelow, below_items, below_link, entries_of, knows_link}
use Rattle.mst_view.proofs.Filling.{IsNext, others, tail_is, hangs, bare, passed, filled}
use Rattle.mst_node.proofs.Told.{both_true}
use Rattle.mst_node.proofs.Passes.{hang_true, fit_true}
use Rattle.mst_view.proofs.Encoded.{at_layer}
use Rattle.mst_node.proofs.Steps.{at_none, at_hole, at_block, block_bad, block_unfit, block_fit}
use Rattle.mst_view.proofs.Steps.{sound, ascends, nodes_under, above_zero, hang_of, fails_on, link_of_parts, some_items}
use Rattle.mst_view.specs.declared.branch.Below.{Below}
use Rattle.mst_view.proofs.reading.+read.Goals as goal
use Rattle.mst_node.specs.Reading.{node_of}
use Rattle.mst_view.specs.Steps.{link_at_fault}

pub read_below-returns-in_default-clause-gives : goal.read_below-returns-in_default-clause-gives
read_below-returns-in_default-clause-gives t c =
    let low = option_map (λ k. k.now) c.args.low in let high = option_map (λ k. k.now) c.args.high in
    ap (part_at in_part node_of c.args.blocks.now c.args.layer low high) c.in_default.is ∙ at_none in_part node_of c.args.blocks.now c.args.layer low high

pub read_below-returns-in-None-clause-gives : goal.read_below-returns-in-None-clause-gives
read_below-returns-in-None-clause-gives t c =
    let low = option_map (λ k. k.now) c.args.low in let high = option_map (λ k. k.now) c.args.high in let link = c.in-Some.link in
    ap (part_at in_part node_of c.args.blocks.now c.args.layer low high) c.in-Some.is
    ∙ at_hole node_of c.args.blocks.now c.args.layer low high link (above_zero c.args.layer c.args.link.now link c.requires.lowest c.in-Some.is) (sym c.in-None.ensures.is)

pub read_tree-returns-in-Err-BadNode-clause-gives : goal.read_tree-returns-in-Err-BadNode-clause-gives
read_tree-returns-in-Err-BadNode-clause-gives t c =
    let low = option_map (λ k. k.now) c.args.low in let high = option_map (λ k. k.now) c.args.high in let h = c.args.layer in let B = c.args.blocks.now in let b = c.args.block.now in
    at_block in_part node_of B h low high c.args.link b c.requires.above c.requires.there
    ∙ block_bad (node_fits (h - 1) low high) (parts_of (part_at in_part node_of B (h - 1)) low high) c.args.link (node_of b) (c.in-Err-BadNode.ensures.none c.in-Err-BadNode.field-0-is)

pub read_tree-parts_fit-requires : goal.read_tree-parts_fit-requires
read_tree-parts_fit-requires t c =
    let E : List Part → Type 0 = λ x. EntriesAscend None (entries_of x) in
    subst E (sym c.as_slice.ensures.value) (ascends c.args.block.now (c.in-Ok.parts.0, entries_of c.in-Ok.parts.1.items) c.in-Ok.ensures.told)

pub read_tree-returns-then-not-parts_fit-clause-gives : goal.read_tree-returns-then-not-parts_fit-clause-gives
read_tree-returns-then-not-parts_fit-clause-gives t c =
    let low = option_map (λ k. k.now) c.args.low in let high = option_map (λ k. k.now) c.args.high in let h = c.args.layer in let B = c.args.blocks.now in let b = c.args.block.now in
    let left = c.in-Ok.parts.0 in let es = entries_of c.in-Ok.parts.1.items in
    at_block in_part node_of B h low high c.args.link b c.requires.above c.requires.there
    ∙ block_unfit (node_fits (h - 1) low high) (parts_of (part_at in_part node_of B (h - 1)) low high) c.args.link (node_of b) (left, es) c.in-Ok.ensures.told (ap (λ x. node_fits (h - 1) low high (left, entries_of x)) (sym c.as_slice.ensures.value) ∙ sym c.parts_fit.ensures ∙ c.if-not-parts_fit.true)

pub read_tree-read_branch-requires : goal.read_tree-read_branch-requires
read_tree-read_branch-requires t c =
    let low = option_map (λ k. k.now) c.args.low in let high = option_map (λ k. k.now) c.args.high in let h = c.args.layer in let B = c.args.blocks.now in let b = c.args.block.now in
    let left = c.in-Ok.parts.0 in let es = entries_of c.in-Ok.parts.1.items in
    let fits : node_fits (h - 1) low high (left, es) ≡ true = ap (λ x. node_fits (h - 1) low high (left, entries_of x)) (sym c.as_slice.ensures.value) ∙ sym c.parts_fit.ensures ∙ c.if-not-parts_fit.false in
    let g = sound.gives b (left, es) c.in-Ok.ensures.told in
    let p = both_true (may_hang (h - 1) left && is_some_node (left, es)) (entries_fit (h - 1) low high es) fits in
    let q = both_true (may_hang (h - 1) left) (is_some_node (left, es)) p.0 in (
      omega arith,
      (
        g.1,
        (
          hang_true (h - 1) left q.0,
          (
            hang_of (h - 1) low high es (fit_true (h - 1) low high es g.2 p.1),
            (
              c.in-Ok.ensures.bare,
              nodes_under c.args.blocks.now c.requires.linked c.args.link b c.requires.kind c.requires.there ∙ ap cid g.0,
            ),
          ),
        ),
      ),
    )

pub read_tree-returns-in_err-branch-clause-gives : goal.read_tree-returns-in_err-branch-clause-gives
read_tree-returns-in_err-branch-clause-gives t c =
    let low = option_map (λ k. k.now) c.args.low in let high = option_map (λ k. k.now) c.args.high in let h = c.args.layer in let B = c.args.blocks.now in let b = c.args.block.now in
    let left = c.in-Ok.parts.0 in let es = entries_of c.in-Ok.parts.1.items in
    let fits : node_fits (h - 1) low high (left, es) ≡ true = ap (λ x. node_fits (h - 1) low high (left, entries_of x)) (sym c.as_slice.ensures.value) ∙ sym c.parts_fit.ensures ∙ c.if-not-parts_fit.false in
    let whole : part_at in_part node_of B h low high (Some c.args.link) ≡ parts_of (part_at in_part node_of B (h - 1)) low high (left, es) =
    at_block in_part node_of B h low high c.args.link b c.requires.above c.requires.there
    ∙ block_fit (node_fits (h - 1) low high) (parts_of (part_at in_part node_of B (h - 1)) low high) c.args.link (node_of b) (left, es) c.in-Ok.ensures.told fits in
    let p = err_from_is_err_and c.from_residual.result c.from_residual.ensures.1 in
    rw (p.1, p.2) (fails_on (link_at_fault c.in_err-branch.field-0.0) (part_at in_part node_of B h low high (Some c.args.link)) (parts_of (part_at in_part node_of B (h - 1)) low high (left, es)) whole c.in_err-branch.ensures.gives)

pub read_tree-returns-clause-gives : goal.read_tree-returns-clause-gives
read_tree-returns-clause-gives t c =
    let low = option_map (λ k. k.now) c.args.low in let high = option_map (λ k. k.now) c.args.high in let h = c.args.layer in let B = c.args.blocks.now in let b = c.args.block.now in
    let left = c.in-Ok.parts.0 in let es = entries_of c.in-Ok.parts.1.items in
    let fits : node_fits (h - 1) low high (left, es) ≡ true = ap (λ x. node_fits (h - 1) low high (left, entries_of x)) (sym c.as_slice.ensures.value) ∙ sym c.parts_fit.ensures ∙ c.if-not-parts_fit.false in
    let whole : part_at in_part node_of B h low high (Some c.args.link) ≡ parts_of (part_at in_part node_of B (h - 1)) low high (left, es) =
    at_block in_part node_of B h low high c.args.link b c.requires.above c.requires.there
    ∙ block_fit (node_fits (h - 1) low high) (parts_of (part_at in_part node_of B (h - 1)) low high) c.args.link (node_of b) (left, es) c.in-Ok.ensures.told fits in
    whole ∙ c.in_ok-branch.ensures.gives ∙ ap (λ (v : Layered). Ok v.items) (sym c.in_ok-new.ensures.ok)

pub read_branch-invariant_of-result : goal.read_branch-invariant_of-result
read_branch-invariant_of-result t c =
    record {
      first_lies = c.in_ok-first.ensures.lies;
      all_at = c.in_ok-read_rights.ensures.at;
      kept_is = link_of_parts c.args.layer c.in_ok-first.first c.read_rights.new.rest.items c.args.parts.0 (entries_of c.args.parts.1.items) c.args.link c.in_ok-first.ensures.lies c.in_ok-read_rights.ensures.at c.in_ok-first.ensures.keeps c.in_ok-read_rights.ensures.keeps c.requires.link_is;
    }

pub read_branch-returns-clause-link : goal.read_branch-returns-clause-link
read_branch-returns-clause-link t c =
    sym (link_of_parts c.args.layer c.in_ok-first.first c.read_rights.new.rest.items c.args.parts.0 (entries_of c.args.parts.1.items) c.args.link c.in_ok-first.ensures.lies c.in_ok-read_rights.ensures.at c.in_ok-first.ensures.keeps c.in_ok-read_rights.ensures.keeps c.requires.link_is)

pub read_branch-returns-clause-at : goal.read_branch-returns-clause-at
read_branch-returns-clause-at t c =
    λ some. at_layer c.args.layer c.in_ok-first.first c.read_rights.new.rest.items c.in_ok-first.ensures.lies c.in_ok-read_rights.ensures.at (some_items c.args.layer c.in_ok-first.first c.read_rights.new.rest.items c.args.parts.0 (entries_of c.args.parts.1.items) c.in_ok-first.ensures.lies c.in_ok-first.ensures.keeps c.in_ok-read_rights.ensures.keeps some)

pub read_rights-parts-preserved-in-Empty : goal.read_rights-parts-preserved-in-Empty
read_rights-parts-preserved-in-Empty t c =
    let h = c.args.layer in let high = option_map (λ k. k.now) c.args.high in let B = c.args.blocks.now in let below = part_at in_part node_of B h in
    let p = c.part-item.result in let old = c.args.rest.now.items in let parts = c.parts.rest.items in let seen = c.deref.result.now in let before = c.parts.invariant in
    let next : IsNext parts seen c.parts.next p = record { same = c.deref.ensures.value; some = c.in-len1-up.len_at_least; is = c.part-item.is } in
    let bound = next_bound high (entries_of (others below h high old parts seen c.parts.next p before next)) in
    let L : Below → Type 0 = λ x. LiesBelow h x in
    passed below h high old parts seen c.parts.next p before next (subst L (sym c.in-Empty.is) tt) (ap (λ x. below (Some p.key) bound (below_link x)) c.in-Empty.is ∙ at_none in_part node_of B h (Some p.key) bound ∙ ap (λ x. Ok (below_items h x)) (sym c.in-Empty.is))

pub read_rights-parts-preserved-in-Tree : goal.read_rights-parts-preserved-in-Tree
read_rights-parts-preserved-in-Tree t c =
    let h = c.args.layer in let high = option_map (λ k. k.now) c.args.high in let B = c.args.blocks.now in let below = part_at in_part node_of B h in
    let p = c.part-item.result in let old = c.args.rest.now.items in let parts = c.parts.rest.items in let seen = c.deref.result.now in let before = c.parts.invariant in
    let next : IsNext parts seen c.parts.next p = record { same = c.deref.ensures.value; some = c.in-len1-up.len_at_least; is = c.part-item.is } in
    let bound = next_bound high (entries_of (others below h high old parts seen c.parts.next p before next)) in
    let never : knows_link (Below.Tree c.in-Tree.field-0) ≡ true = ap knows_link (sym c.in-Tree.is) ∙ bare below h high old parts seen c.parts.next p before next in absurd cc

pub read_rights-parts-preserved-in_default-get : goal.read_rights-parts-preserved-in_default-get
read_rights-parts-preserved-in_default-get t c =
    let h = c.args.layer in let high = option_map (λ k. k.now) c.args.high in let B = c.args.blocks.now in let below = part_at in_part node_of B h in
    let p = c.part-item.result in let old = c.args.rest.now.items in let parts = c.parts.rest.items in let seen = c.deref.result.now in let before = c.parts.invariant in
    let next : IsNext parts seen c.parts.next p = record { same = c.deref.ensures.value; some = c.in-len1-up.len_at_least; is = c.part-item.is } in
    let bound = next_bound high (entries_of (others below h high old parts seen c.parts.next p before next)) in
    let link = c.in-Hole.link in let hole = c.in-Hole.is in let L : Below → Type 0 = λ x. LiesBelow h x in
    let above = above_zero h (below_link p.below) link (hangs below h high old parts seen c.parts.next p before next).2 (ap below_link hole) in
    passed below h high old parts seen c.parts.next p before next (subst L (sym hole) above) (ap (λ x. below (Some p.key) bound (below_link x)) hole ∙ at_hole node_of B h (Some p.key) bound link above (sym c.in_default-get.ensures.is) ∙ ap (λ x. Ok (below_items h x)) (sym hole))

pub read_rights-parts-preserved : goal.read_rights-parts-preserved
read_rights-parts-preserved t c =
    let h = c.args.layer in let high = option_map (λ k. k.now) c.args.high in let B = c.args.blocks.now in let below = part_at in_part node_of B h in
    let p = c.part-item.result in let old = c.args.rest.now.items in let parts = c.parts.rest.items in let seen = c.deref.result.now in let before = c.parts.invariant in
    let next : IsNext parts seen c.parts.next p = record { same = c.deref.ensures.value; some = c.in-len1-up.len_at_least; is = c.part-item.is } in
    let bound = next_bound high (entries_of (others below h high old parts seen c.parts.next p before next)) in
    let link = c.in-Hole.link in let hole = c.in-Hole.is in
    let tail = tail_is below h high old parts seen c.parts.next p before next in
    let behind = c.next_key-high.ensures ∙ ap (λ x. next_bound high (entries_of x)) tail in
    let gives = ap (λ x. below (Some p.key) bound (below_link x)) hole
    ∙ ap (λ k. below (Some k) bound (Some link)) (sym c.as_slice.ensures.value)
    ∙ ap (λ x. below (Some c.as_slice.result.now) x (Some link)) (sym behind)
    ∙ c.in_ok-below.ensures.gives in
    filled below h high old parts seen c.parts.next p before next c.index_mut-part.result.now c.in_ok-below.below c.index_mut-part.ensures.value (c.in_ok-below.ensures.keeps ∙ ap below_link (sym hole)) c.in_ok-below.ensures.lies gives
