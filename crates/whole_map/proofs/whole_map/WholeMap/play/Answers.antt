use Rattle.std.proofs.Common.{◌≡◌, ◌∙◌, List, ap, refl, sym, subst}
use Rattle.std.proofs.lemmas.Result.{err_from_is_err_and}
use Rattle.mst_list.specs.declared.item.Item.{Item}
use Rattle.mst_list.specs.declared.op.Op.{Op}
use Rattle.mst_list.specs.Edits.{Plays}
use Rattle.mst_list.specs.Lists.{Ascends}
use Rattle.mst_list.specs.Maps.{AllApply, IsJudgedFault, edited}
use Rattle.mst_list.proofs.InPlace.{applied_plays, judged_fault}
use Rattle.whole_map.specs.Turns.{ChangesApply, all_changed, all_created}
use Rattle.whole_map.proofs.InTurns.{all_created_ascends, changes_apply, in_turns}
use Rattle.whole_map.proofs.whole_map.WholeMap.play.Goals as goal

pub returns-in_err-judge-clause-fault : goal.returns-in_err-judge-clause-fault
returns-in_err-judge-clause-fault c =
    let s = c.args.self.now in let ops = c.args.ops.now in let fault = c.in_err-judge.field-0.0 in
    let cause : IsJudgedFault s ops fault = subst (λ (x : List Op). IsJudgedFault s x fault) c.as_slice-ops.ensures.value c.in_err-judge.ensures.fault in
    let p = err_from_is_err_and c.from_residual.result c.from_residual.ensures.1 in
    rw (p.1, p.2) (judged_fault s ops fault c.pieces-map.ensures.ascends c.requires cause, refl)

pub change_all-requires-clause-ascends : goal.change_all-requires-clause-ascends
change_all-requires-clause-ascends c =
    let s = c.args.self.now in let ops = c.args.ops.now in
    let begun : c.create_all.new.self ≡ all_created s ops = c.in_ok-create_all.ensures.created ∙ ap (all_created s) c.as_slice-ops.ensures.value in
    subst (λ (x : List Item). Ascends x) (sym begun) (all_created_ascends s ops c.pieces-map.ensures.ascends)

pub change_all-requires-clause-apply : goal.change_all-requires-clause-apply
change_all-requires-clause-apply c =
    let s = c.args.self.now in let ops = c.args.ops.now in
    let begun : c.create_all.new.self ≡ all_created s ops = c.in_ok-create_all.ensures.created ∙ ap (all_created s) c.as_slice-ops.ensures.value in
    let apply = subst (λ (x : List Op). AllApply s x) c.as_slice-ops.ensures.value c.in_ok-judge.ensures.apply in
    subst (λ (x : List Op). ChangesApply c.create_all.new.self x) (sym c.as_slice-ops.ensures.value)
    (subst (λ (x : List Item). ChangesApply x ops) (sym begun) (changes_apply s ops c.pieces-map.ensures.ascends c.requires apply))

pub returns-clause-plays : goal.returns-clause-plays
returns-clause-plays c =
    let s = c.args.self.now in let ops = c.args.ops.now in
    let begun : c.create_all.new.self ≡ all_created s ops = c.in_ok-create_all.ensures.created ∙ ap (all_created s) c.as_slice-ops.ensures.value in
    let apply = subst (λ (x : List Op). AllApply s x) c.as_slice-ops.ensures.value c.in_ok-judge.ensures.apply in
    let done : c.change_all.new.self ≡ edited s ops =
    c.change_all.ensures ∙ ap (λ (x : List Item). all_changed x c.as_slice-ops.result.now) begun
    ∙ ap (all_changed (all_created s ops)) c.as_slice-ops.ensures.value ∙ in_turns s ops c.pieces-map.ensures.ascends c.pieces-map.ensures.whole c.requires in
    subst (λ (x : List Item). Plays s ops x) (sym done) (applied_plays s ops c.pieces-map.ensures.ascends c.requires apply)
