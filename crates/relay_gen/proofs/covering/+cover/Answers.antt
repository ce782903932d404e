use Rattle.std.proofs.Common.{◌≡◌, ◌≤◌, ◌-◌, [], length, take, drop, get_or, ◌∷◌, ℕ, List, None, Some, refl, sym, ap, ◌∙◌, subst, arith, inl, inr}
use Rattle.std.specs.Prelude.{option_map}
use Rattle.std.proofs.lemmas.Result.{on_ok_weaker}
use Rattle.mst_list.specs.Lists.{KeysOnly}
use Rattle.mst_node.specs.Covers.{part_encoded, right_encoded}
use Rattle.mst_view.specs.Value.{Layered}
use Rattle.mst_view.specs.Layered.{AllAt, LiesBelow, below_items, layered, rest_items}
use Rattle.mst_view.specs.declared.branch.Below.{Below}
use Rattle.mst_view.specs.declared.branch.Part.{Part}
use Rattle.relay_gen.specs.Covers.{on_ways}
use Rattle.relay_gen.specs.Messages.{with_blocks}
use Rattle.relay_gen.specs.Walks.{IsRange, node_encoded, part_bound}
use Rattle.relay_gen.proofs.Ways.{block_encoded, empty_part, link_encoded, node_done, none_here, parts_done, range_first, range_part, range_rest, tree_encoded}
use Rattle.relay_gen.proofs.covering.+cover.Goals as goal

pub cover_below-returns-in-Tree : goal.cover_below-returns-in-Tree
cover_below-returns-in-Tree t c =
    let low = option_map (λ k. k.now) c.args.low in let high = option_map (λ k. k.now) c.args.high in let h = c.args.layer in let old = c.args.blocks.now in let keys = c.args.paths.now in
    let b = c.in-Tree.branch in
    let L : Below → Type 0 = λ x. LiesBelow h x in let lies = subst L c.in-Tree.is c.requires.lies in
    on_ok_weaker c.cover_branch.result (λ e. e
    ∙ ap (λ (v : Layered). with_blocks old (on_ways keys (node_encoded v.layer low high v.items))) c.deref.ensures
    ∙ ap (λ X. with_blocks old (on_ways keys X)) (sym (tree_encoded h b.value.layer low high b.value.items lies.0 lies.1.some))
    ∙ ap (λ x. with_blocks old (on_ways keys (part_encoded h low high (below_items h x)))) (sym c.in-Tree.is)) c.cover_branch.ensures

pub cover_below-returns-in-Empty : goal.cover_below-returns-in-Empty
cover_below-returns-in-Empty t c =
    let low = option_map (λ k. k.now) c.args.low in let high = option_map (λ k. k.now) c.args.high in let h = c.args.layer in let old = c.args.blocks.now in let keys = c.args.paths.now in
    elim c.in-Empty.is [
      | inl e ↦ sym (ap (λ x. with_blocks old (on_ways keys (part_encoded h low high (below_items h x)))) e ∙ ap (λ X. with_blocks old (on_ways keys X)) (empty_part h low high))
      | inr e ↦ let K : Below → Type 0 = λ x. KeysOnly (below_items h x) in absurd (subst K e.1 c.requires.range.keys_only)
    ]

pub cover_branch-returns-then-not-one_lies_between : goal.cover_branch-returns-then-not-one_lies_between
cover_branch-returns-then-not-one_lies_between t c =
    let low = option_map (λ k. k.now) c.args.low in let high = option_map (λ k. k.now) c.args.high in let v = c.args.branch.now in
    sym (ap (with_blocks c.args.blocks.now) (none_here c.args.paths.now v.layer low high v.items c.requires (sym c.one_lies_between.ensures ∙ c.if-not-one_lies_between.true)))

-- the parts of a node, as the program has them
record IsNodeOf (h : ℕ) (first : Below) (parts : List Part) (v : Layered) : Type 0 where
  lies : LiesBelow h first
  at : AllAt h parts
  view : layered h first parts ≡ v

node_of : (h : ℕ) (first : Below) (rest parts : List Part) (v : Layered) → LiesBelow h first → AllAt h rest → layered h first rest ≡ v → parts ≡ rest → IsNodeOf h first parts v
node_of h first rest parts v l a e is =
    let A : List Part → Type 0 = λ x. AllAt h x in let V : List Part → Type 0 = λ x. layered h first x ≡ v in
    record { lies = l; at = subst A (sym is) a; view = subst V (sym is) e }

pub cover_branch-put-requires : goal.cover_branch-put-requires
cover_branch-put-requires t c =
    let h = c.branch.inside.layer in let first = c.branch.inside.first in let parts = c.as_slice-parts.result.now in let v = c.args.branch.now in
    let n = node_of h first c.branch.inside.rest.items parts v c.branch.invariant.first_lies c.branch.invariant.all_at c.branch.view_is c.as_slice-parts.ensures.value in
    let encoded = block_encoded h first parts v c.as_slice.result.now n.lies n.at n.view (c.as_slice.ensures.value ∙ c.in_ok-block.ensures) in
    link_encoded c.in_ok-link.link c.as_slice.result.now v c.in_ok-link.ensures encoded

pub cover_branch-cover_below-requires : goal.cover_branch-cover_below-requires
cover_branch-cover_below-requires t c =
    let low = option_map (λ k. k.now) c.args.low in let high = option_map (λ k. k.now) c.args.high in
    let h = c.branch.inside.layer in let first = c.branch.inside.first in let parts = c.as_slice-parts.result.now in let v = c.args.branch.now in
    let n = node_of h first c.branch.inside.rest.items parts v c.branch.invariant.first_lies c.branch.invariant.all_at c.branch.view_is c.as_slice-parts.ensures.value in
    let layer = ap (λ (x : Layered). x.layer) c.branch.view_is in
    let R : Layered → Type 0 = λ x. IsRange low high x.items in
    let range = range_first h low high (below_items h first) parts (subst R (sym n.view) c.requires) in
    (omega arith, (n.lies, subst (λ o. IsRange low o (below_items h first)) (sym c.bound_before.ensures) range))

pub cover_branch-cover_parts-requires : goal.cover_branch-cover_parts-requires
cover_branch-cover_parts-requires t c =
    let low = option_map (λ k. k.now) c.args.low in let high = option_map (λ k. k.now) c.args.high in
    let h = c.branch.inside.layer in let first = c.branch.inside.first in let parts = c.as_slice-parts.result.now in let v = c.args.branch.now in
    let n = node_of h first c.branch.inside.rest.items parts v c.branch.invariant.first_lies c.branch.invariant.all_at c.branch.view_is c.as_slice-parts.ensures.value in
    let layer = ap (λ (x : Layered). x.layer) c.branch.view_is in
    let R : Layered → Type 0 = λ x. IsRange low high x.items in
    (omega arith, (n.at, range_rest h low high (below_items h first) parts (subst R (sym n.view) c.requires)))

pub cover_branch-returns : goal.cover_branch-returns
cover_branch-returns t c =
    let low = option_map (λ k. k.now) c.args.low in let high = option_map (λ k. k.now) c.args.high in let v = c.args.branch.now in let old = c.args.blocks.now in let keys = c.args.paths.now in
    let h = c.branch.inside.layer in let first = c.branch.inside.first in let parts = c.as_slice-parts.result.now in
    let n = node_of h first c.branch.inside.rest.items parts v c.branch.invariant.first_lies c.branch.invariant.all_at c.branch.view_is c.as_slice-parts.ensures.value in
    let link = c.in_ok-link.link in let block = c.as_slice.result.now in
    let encoded = block_encoded h first parts v block n.lies n.at n.view (c.as_slice.ensures.value ∙ c.in_ok-block.ensures) in
    let done = node_done keys old h low high first parts v n.lies n.at n.view (sym c.one_lies_between.ensures ∙ c.if-not-one_lies_between.false) link block c.in_ok-link.ensures encoded in
    let B = on_ways keys (right_encoded (part_encoded h) h high (rest_items h parts)) in
    on_ok_weaker c.cover_parts.result (λ e. e
    ∙ ap (λ m. with_blocks m B) (c.in_ok-cover_below.ensures
    ∙ ap (λ o. with_blocks c.put.new.self (on_ways keys (part_encoded h low o (below_items h first)))) c.bound_before.ensures
    ∙ ap (λ m. with_blocks m (on_ways keys (part_encoded h low (part_bound high parts) (below_items h first)))) c.in_ok-put.ensures.ok)
    ∙ sym done) c.cover_parts.ensures

rest_split : (xs : List Part) (p : Part) → 1 ≤ length xs → p ≡ get_or xs 0 p → xs ≡ p ∷ take (length xs - 1) (drop 1 xs)
rest_split [] p low e = absurd (omega arith)
rest_split (x ∷ xs) p low e = let n : length xs ≡ length (x ∷ xs) - 1 = omega arith in ap (λ y. y ∷ xs) (sym e) ∙ ap (λ y. p ∷ y) (sym (take_all xs) ∙ ap (λ m. take m xs) n)
  where
    take_all : (ys : List Part) → take (length ys) ys ≡ ys
    take_all [] = refl
    take_all (y ∷ ys) = ap (λ z. y ∷ z) (take_all ys)

pub cover_parts-cover_below-requires : goal.cover_parts-cover_below-requires
cover_parts-cover_below-requires t c =
    let high = option_map (λ k. k.now) c.args.high in let h = c.args.layer in let p = c.part-item.result in let rest = c.parts.rest.now in let others = take (length rest - 1) (drop 1 rest) in
    let here = rest_split rest p c.in-len1-up.len_at_least c.part-item.is in
    let A : List Part → Type 0 = λ x. AllAt h x in let R : List Part → Type 0 = λ x. IsRange None high (rest_items h x) in
    let at = subst A here c.parts.invariant.at in let range = range_part h high p others (subst R here c.parts.invariant.range) in
    let inner = range_first h (Some p.key) high (below_items h p.below) others range in
    (omega arith, (at.1, subst (λ o. IsRange (Some c.as_slice.result.now) o (below_items h p.below)) (sym c.bound_before-bound.ensures) (subst (λ k. IsRange (Some k) (part_bound high others) (below_items h p.below)) (sym c.as_slice.ensures.value) inner)))

pub cover_parts-parts-preserved : goal.cover_parts-parts-preserved
cover_parts-parts-preserved t c =
    let high = option_map (λ k. k.now) c.args.high in let h = c.args.layer in let p = c.part-item.result in let rest = c.parts.rest.now in let others = take (length rest - 1) (drop 1 rest) in
    let keys = c.args.paths.now in let old = c.parts.blocks in let X = below_items h p.below in
    let here = rest_split rest p c.in-len1-up.len_at_least c.part-item.is in
    let A : List Part → Type 0 = λ x. AllAt h x in let R : List Part → Type 0 = λ x. IsRange None high (rest_items h x) in
    let at = subst A here c.parts.invariant.at in let range = range_part h high p others (subst R here c.parts.invariant.range) in
    let B = on_ways keys (right_encoded (part_encoded h) h high (rest_items h others)) in
    record {
      at = at.2;
      range = range_rest h (Some p.key) high X others range;
      blocks = ap (λ m. with_blocks m B) (c.in_ok-cover_below.ensures
          ∙ ap (λ k. with_blocks old (on_ways keys (part_encoded h (Some k) (option_map (λ k. k.now) c.bound_before-bound.result) X))) c.as_slice.ensures.value
          ∙ ap (λ o. with_blocks old (on_ways keys (part_encoded h (Some p.key) o X))) c.bound_before-bound.ensures)
          ∙ sym (parts_done keys old h high p others at)
          ∙ ap (λ x. with_blocks old (on_ways keys (right_encoded (part_encoded h) h high (rest_items h x)))) (sym here)
          ∙ c.parts.invariant.blocks;
    }
