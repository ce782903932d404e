use Rattle.std.proofs.Common.{◌≡◌, sym, ap, ◌∙◌, add-one, arith}
use Rattle.mst_list.specs.Edits.{value_at}
use Rattle.mst_list.proofs.Alike.{value_differs, value_same}
use Rattle.mst_list.proofs.InPlace.{apply_more, fails_at}
use Rattle.whole_map.proofs.whole_map.WholeMap.judge.Goals as goal

pub returns-then-ne-clause-fault : goal.returns-then-ne-clause-fault
returns-then-ne-clause-fault c =
    let s = c.args.self.now in let op = c.index-ops-i.result in
    let whole : c.value_of.result ≡ value_at op.key s = c.value_of.ensures ∙ ap (λ k. value_at k s) c.as_slice.ensures.value in
    fails_at s c.args.ops.now c.loop-i.i op c.loop-i.invariant (omega arith) c.index-ops-i.is
    (λ e. value_differs c.ne.result c.value_of.result op.was c.ne.ensures c.if-ne.true (whole ∙ e))

pub loop-i-preserved : goal.loop-i-preserved
loop-i-preserved c =
    let s = c.args.self.now in let op = c.index-ops-i.result in
    let whole : c.value_of.result ≡ value_at op.key s = c.value_of.ensures ∙ ap (λ k. value_at k s) c.as_slice.ensures.value in
    rw add-one
    (apply_more s c.args.ops.now c.loop-i.i op c.loop-i.invariant (omega arith) c.index-ops-i.is
    (sym whole ∙ value_same c.ne.result c.value_of.result op.was c.ne.ensures c.if-ne.false))
