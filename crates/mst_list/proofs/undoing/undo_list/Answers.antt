use Rattle.std.proofs.Common.{◌≡◌, ap, ◌∙◌}
use Rattle.std.proofs.lemmas.Result.{err_from_is_err_and}
use Rattle.mst_list.specs.Edits.{undone}
use Rattle.mst_list.specs.Faults.{AllFine, IsCaused}
use Rattle.mst_list.proofs.Firsts.{all_agree_of, guarded_of}
use Rattle.mst_list.proofs.Formed.{undone_formed}
use Rattle.mst_list.proofs.Answering.{undone_exact, fault_exact}
use Rattle.mst_list.proofs.undoing.undo_list.Goals as goal

pub returns-in_err-judge_all-clause-exact : goal.returns-in_err-judge_all-clause-exact
returns-in_err-judge_all-clause-exact c =
    let cause : IsCaused c.args.list.now c.args.ops.now c.in_err-judge_all.field-0.0 = rw (← c.as_slice.ensures.value, ← c.as_slice-2.ensures.value) c.in_err-judge_all.ensures.fault in
    let p = err_from_is_err_and c.from_residual.result c.from_residual.ensures.1 in
    rw (p.1, p.2) (fault_exact c.args.list.now c.args.ops.now c.in_err-judge_all.field-0.0 cause)

pub invariant_of-result : goal.invariant_of-result
invariant_of-result c =
    let made : c.undo_all.new.items.items ≡ undone c.args.list.now c.args.ops.now =
    c.in_ok-undo_all.ensures ∙ ap (λ F. undone F c.as_slice-4.result.now) (c.in_ok-items.ensures ∙ c.as_slice-3.ensures.value) ∙ ap (undone c.args.list.now) c.as_slice-4.ensures.value in
    undone_formed c.args.list.now c.undo_all.new.items.items c.args.ops.now made c.as_slice.ensures.formed c.as_slice-2.ensures.formed

pub returns-clause-agree : goal.returns-clause-agree
returns-clause-agree c =
    let fine : AllFine c.args.list.now c.args.ops.now = rw (← c.as_slice.ensures.value, ← c.as_slice-2.ensures.value) c.in_ok-judge_all.ensures.fine in
    all_agree_of c.args.list.now c.args.ops.now fine

pub returns-clause-guarded : goal.returns-clause-guarded
returns-clause-guarded c =
    let fine : AllFine c.args.list.now c.args.ops.now = rw (← c.as_slice.ensures.value, ← c.as_slice-2.ensures.value) c.in_ok-judge_all.ensures.fine in
    guarded_of c.args.list.now c.args.ops.now fine

pub returns-clause-exact : goal.returns-clause-exact
returns-clause-exact c =
    let fine : AllFine c.args.list.now c.args.ops.now = rw (← c.as_slice.ensures.value, ← c.as_slice-2.ensures.value) c.in_ok-judge_all.ensures.fine in
    let made : c.undo_all.new.items.items ≡ undone c.args.list.now c.args.ops.now =
    c.in_ok-undo_all.ensures ∙ ap (λ F. undone F c.as_slice-4.result.now) (c.in_ok-items.ensures ∙ c.as_slice-3.ensures.value) ∙ ap (undone c.args.list.now) c.as_slice-4.ensures.value in
    undone_exact c.args.list.now c.undo_all.new.items.items c.args.ops.now fine made
