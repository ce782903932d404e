use Rattle.std.proofs.Common.{◌≡◌, ◌∙◌, ℕ, suc, ◌-◌, take, ap, arith}
use Rattle.whole_map.specs.Turns.{all_created, taken_back}
use Rattle.whole_map.proofs.InTurns.{back_one}
use Rattle.whole_map.proofs.whole_map.WholeMap.take_back_some.Goals as goal

pub loop-left-preserved : goal.loop-left-preserved
loop-left-preserved c =
    let ops = c.args.ops.now in let op = c.index-ops-left.result in let n = c.loop-left.left in
    let one : n ≡ suc (n - 1) = omega arith in
    record {
      in_range = omega (arith, c.loop-left.invariant.in_range);
      back = λ s up whole apply apart begun.
          c.take_back.ensures
          ∙ ap (taken_back op) (c.loop-left.invariant.back s up whole apply apart begun ∙ ap (λ (m : ℕ). all_created s (take m ops)) one)
          ∙ back_one s ops (n - 1) op up whole apply apart (omega (arith, c.loop-left.invariant.in_range)) c.index-ops-left.is;
    }
