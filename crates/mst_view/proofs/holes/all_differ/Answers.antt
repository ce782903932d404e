use Rattle.std.proofs.Common.{◌≡◌, ◌-◌, true, false, not, cond, ◌&&◌, drop, sym, ap, ◌∙◌, arith}
use Rattle.std.specs.BTreeMap.{is_at}
use Rattle.at_cid.specs.Order.{key_cmp}
use Rattle.std.specs.Str.{bytes_eq}
use Rattle.at_cid.specs.Distinct.{is_absent, all_differ}
use Rattle.at_cid.proofs.Distinct.{equal_behind, link_seen}
use Rattle.mst_view.proofs.HoleLinks.{from_place, not_not}
use Rattle.mst_view.proofs.holes.all_differ.Goals as goal

pub returns-then-not-branch : goal.returns-then-not-branch
returns-then-not-branch c =
    let ds = c.args.links.now in let n = c.loop-left.left in let x = c.index-links-left.result in
    let here = from_place ds (n - 1) n x (let some = c.loop-left-test.true in omega arith) (let some = c.loop-left-test.true in let low = c.loop-left.invariant.in_range in omega arith) c.index-links-left.is in
    let twice : is_absent bytes_eq x (drop n ds) ≡ false = sym (not_not _ _ (c.loop-left.invariant.seen x)) ∙ sym c.in_ok-insert.ensures.added ∙ c.if-not-branch.true in
    sym (equal_behind bytes_eq (n - 1) ds (ap (all_differ bytes_eq) here ∙ ap (λ b. b && all_differ bytes_eq (drop n ds)) twice))

pub loop-left-preserved : goal.loop-left-preserved
loop-left-preserved c =
    let ds = c.args.links.now in let n = c.loop-left.left in let x = c.index-links-left.result in
    let here = from_place ds (n - 1) n x (let some = c.loop-left-test.true in omega arith) (let some = c.loop-left-test.true in let low = c.loop-left.invariant.in_range in omega arith) c.index-links-left.is in
    let new : is_absent bytes_eq x (drop n ds) ≡ true = sym (not_not _ _ (c.loop-left.invariant.seen x)) ∙ sym c.in_ok-insert.ensures.added ∙ c.if-not-branch.false in
    record {
      in_range = let low = c.loop-left.invariant.in_range in omega arith;
      differ = ap (all_differ bytes_eq) here ∙ ap (λ b. b && all_differ bytes_eq (drop n ds)) new ∙ c.loop-left.invariant.differ;
      seen = λ q. c.in_ok-insert.ensures.updates.0 q ∙ ap (λ b. cond (is_at (key_cmp x) q) true b) (c.loop-left.invariant.seen q) ∙ link_seen q x (drop n ds) ∙ ap (λ y. not (is_absent bytes_eq q y)) (sym here);
    }
