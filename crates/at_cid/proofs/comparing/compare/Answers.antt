use Rattle.std.proofs.Common.{◌≡◌, ◌+◌, ◌*◌, ◌/◌, ◌∙◌, arith}
use Rattle.at_cid.specs.Order.{key_cmp}
use Rattle.at_cid.proofs.Numbers.{alike, apart}
use Rattle.at_cid.proofs.comparing.compare.Goals as goal

pub loop-i-preserved : goal.loop-i-preserved
loop-i-preserved c =
    let x = c.args.left.now in
    let y = c.args.right.now in
    let next : (c.loop-i.i + 1) * 8 ≡ c.loop-i.i * 8 + 8 = omega arith in
    rw next (alike (c.loop-i.i * 8) x y (omega arith) (omega arith) (λ k. (c.type_inv.left k).fits) (λ k. (c.type_inv.right k).fits) _ _ c.number-a.ensures c.number-b.ensures c.if-a-b.false ∙ c.loop-i.invariant)

pub returns-then-a-b : goal.returns-then-a-b
returns-then-a-b c =
    let x = c.args.left.now in
    let y = c.args.right.now in
    c.cmp.ensures ∙ apart (c.loop-i.i * 8) x y (omega arith) (omega arith) (λ k. (c.type_inv.left k).fits) (λ k. (c.type_inv.right k).fits) _ _ c.number-a.ensures c.number-b.ensures c.if-a-b.true ∙ c.loop-i.invariant

pub returns : goal.returns
unfolding key_cmp
returns c =
    let at : c.loop-i.i ≡ c.min-both.result / 8 = omega arith in
    c.cmp-2.ensures ∙ rw (c.split_at.ensures.back, c.split_at-2.ensures.back, ← at) c.loop-i.invariant
