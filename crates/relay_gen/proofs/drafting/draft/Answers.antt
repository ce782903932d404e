use Rattle.std.proofs.Common.{◌≡◌, ◌+◌, ◌-◌, suc, map, ap, ◌∙◌, arith}
use Rattle.relay_gen.specs.Drafts.{Draft, with_drawn, with_more}
use Rattle.relay_gen.specs.Records.{item_of, op_of}
use Rattle.relay_gen.proofs.drafting.draft.Goals as goal

pub loop-place-preserved : goal.loop-place-preserved
loop-place-preserved c =
    let s = map item_of c.args.records.now in let n = c.args.number in let j = c.loop-place.place in let count = 1 + c.draw.result in
    let before : Draft = record { ops = map op_of c.loop-place.changes.items; state = c.loop-place.draws } in
    let low = c.loop-place-test.true in
    let left : suc (count - (j + 1)) ≡ count - j = omega arith in
    let next : j + 1 ≡ suc j = omega arith in
    ap (λ d. with_more s n (j + 1) (count - (j + 1)) d) c.in_ok-draft_one.ensures
    ∙ ap (λ m. with_more s n m (count - (j + 1)) (with_drawn s n j before)) next
    ∙ ap (λ l. with_more s n j l before) left
    ∙ c.loop-place.invariant
