use Rattle.std.proofs.Common.{◌∙◌, ◌<◌, length, sym, arith}
use Rattle.whole_map.proofs.Edits.{cut_more, filled_more}
use Rattle.whole_map.proofs.Halves.{front_ascends, front_whole, others_ascend, others_whole, some_left}
use Rattle.whole_map.proofs.pieces.cut.Goals as goal

pub copied-requires-clause-ascends : goal.copied-requires-clause-ascends
copied-requires-clause-ascends c =
    front_ascends c.split_at.result.0.now c.split_at.result.1.now c.loop-rest.rest.now c.split_at.ensures.by_index.0 c.loop-rest.invariant.ascends

pub copied-requires-clause-whole : goal.copied-requires-clause-whole
copied-requires-clause-whole c =
    front_whole c.split_at.result.0.now c.split_at.result.1.now c.loop-rest.rest.now c.split_at.ensures.by_index.0 c.loop-rest.invariant.whole

pub loop-rest-preserved : goal.loop-rest-preserved
loop-rest-preserved c =
    let ps = c.loop-rest.pieces.items in let qs = c.push.new.self.items in let q = c.in_ok-copied.field-0 in
    let front = c.split_at.result.0.now in let others = c.split_at.result.1.now in let rest = c.loop-rest.rest.now in
    let left : 0 < length rest = some_left rest (sym c.loop-rest-test.true ∙ c.is_empty.ensures) in
    let some : 0 < length front = omega (arith, left, c.split_at.ensures.front_len, c.min.ensures) in
    record {
      so_far = cut_more ps qs q front others rest c.args.entries.now c.in_ok-push.ensures.items c.in_ok-copied.ensures (sym c.split_at.ensures.by_index.0) c.loop-rest.invariant.so_far;
      filled = filled_more ps qs q front c.in_ok-push.ensures.items c.in_ok-copied.ensures some c.loop-rest.invariant.filled;
      ascends = others_ascend front others rest c.split_at.ensures.by_index.0 c.loop-rest.invariant.ascends;
      whole = others_whole front others rest c.split_at.ensures.by_index.0 c.loop-rest.invariant.whole;
    }
