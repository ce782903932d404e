use Rattle.std.proofs.Common.{◌≡◌, ◌∙◌}
use Rattle.std.proofs.lemmas.Result.{err_from_is_err_and}
use Rattle.mst_list.specs.Edits.{Plays}
use Rattle.mst_list.specs.Faults.{IsPlayFault}
use Rattle.mst_list.proofs.Formed.{played_formed}
use Rattle.mst_list.proofs.Answering.{played_exact, clash_exact}
use Rattle.mst_list.proofs.playing.play.Goals as goal

pub returns-in_err-play_all-clause-exact : goal.returns-in_err-play_all-clause-exact
returns-in_err-play_all-clause-exact c =
    let copied : c.in_ok-items.items.items ≡ c.args.list.now = c.in_ok-items.ensures ∙ c.as_slice.ensures.value in
    let cause : IsPlayFault c.args.list.now c.args.ops.now c.in_err-play_all.field-0.0 = rw (← copied, ← c.as_slice-2.ensures.value) c.in_err-play_all.ensures.fault in
    let p = err_from_is_err_and c.from_residual-in_err-play_all.result c.from_residual-in_err-play_all.ensures.1 in
    rw (p.1, p.2) (clash_exact c.args.list.now c.args.ops.now c.in_err-play_all.field-0.0 cause)

pub invariant_of-result : goal.invariant_of-result
invariant_of-result c =
    let copied : c.in_ok-items.items.items ≡ c.args.list.now = c.in_ok-items.ensures ∙ c.as_slice.ensures.value in
    let plays : Plays c.args.list.now c.args.ops.now c.play_all.new.items.items = rw (← copied, ← c.as_slice-2.ensures.value) c.in_ok-play_all.ensures.plays in
    played_formed c.args.list.now c.play_all.new.items.items c.args.ops.now plays c.as_slice.ensures.formed c.as_slice-2.ensures.formed

pub returns-clause-exact : goal.returns-clause-exact
returns-clause-exact c =
    let copied : c.in_ok-items.items.items ≡ c.args.list.now = c.in_ok-items.ensures ∙ c.as_slice.ensures.value in
    let plays : Plays c.args.list.now c.args.ops.now c.play_all.new.items.items = rw (← copied, ← c.as_slice-2.ensures.value) c.in_ok-play_all.ensures.plays in
    played_exact c.args.list.now c.play_all.new.items.items c.args.ops.now plays
