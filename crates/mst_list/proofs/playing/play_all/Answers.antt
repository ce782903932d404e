use Rattle.std.proofs.Common.{◌≡◌, ◌≢◌, ℕ, suc, sym, ap, ◌∙◌, subst, arith, add-one, add-zero}
use Rattle.mst_list.specs.Edits.{value_at, put}
use Rattle.mst_list.specs.Faults.{IsClash}
use Rattle.mst_list.proofs.Alike.{value_same, value_differs}
use Rattle.mst_list.proofs.Clashes.{clash_here, plays_on, clash_on}
use Rattle.mst_list.proofs.playing.play_all.Goals as goal

pub returns-then-ne-clause-fault : goal.returns-then-ne-clause-fault
returns-then-ne-clause-fault c =
    let s = c.loop-i.items.items in let op = c.index-ops-i.result in
    let R : ℕ → Type 0 = λ n. IsClash c.args.items.now.items c.args.ops.now n in
    let whole : c.value_of.result ≡ value_at op.key s = c.value_of.ensures ∙ ap (λ k. value_at k c.as_slice.result.now) c.as_slice-in-loop-i.ensures.value ∙ ap (value_at op.key) c.as_slice.ensures.value in
    let differs : value_at op.key s ≢ op.was = λ e. value_differs c.ne.result c.value_of.result op.was c.ne.ensures c.if-ne.true (whole ∙ e) in
    subst R (add-zero c.loop-i.i) (c.loop-i.invariant.clash 0 (clash_here s c.args.ops.now c.loop-i.i op (omega arith) c.index-ops-i.is differs))

pub loop-i-preserved : goal.loop-i-preserved
loop-i-preserved c =
    let s = c.loop-i.items.items in let s' = c.put.new.items.items in let op = c.index-ops-i.result in let ops = c.args.ops.now in let i = c.loop-i.i in
    let whole : c.value_of.result ≡ value_at op.key s = c.value_of.ensures ∙ ap (λ k. value_at k c.as_slice.result.now) c.as_slice-in-loop-i.ensures.value ∙ ap (value_at op.key) c.as_slice.ensures.value in
    let at : value_at op.key s ≡ op.was = sym whole ∙ value_same c.ne.result c.value_of.result op.was c.ne.ensures c.if-ne.false in
    let made : s' ≡ put op.key op.now s = c.in_ok-put.ensures in
    record {
      plays = λ t p. c.loop-i.invariant.plays t (plays_on s s' t ops i op (omega arith) c.index-ops-i.is at made (rw add-one at p));
      clash = λ j p.
          let R : ℕ → Type 0 = λ n. IsClash c.args.items.now.items ops n in
          subst R (omega arith) (c.loop-i.invariant.clash (suc j) (clash_on s s' ops i j op (omega arith) c.index-ops-i.is at made (rw add-one at p)));
    }
