use Rattle.std.proofs.Common.{◌∙◌, Some, Err, refl, sym, ap, subst}
use Rattle.relay_row.specs.declared.row.Row.{Row}
use Rattle.relay_step.specs.Messages.{told_as}
use Rattle.relay_step.specs.Steps.{rows_decided, recorded}
use Rattle.relay_step.specs.declared.decided.Decided.{Decided}
use Rattle.store_take.specs.Outcomes.{outcome_decided, taken_outcome}
use Rattle.store_take.specs.Taking.{AreAdded, IsTooLate}
use Rattle.store_take.proofs.MessagesApart.{same_outcome}
use Rattle.store_take.proofs.Turns.{added_one, late_one}
use Rattle.store_take.proofs.preparing.take_decided.Goals as goal

pub returns-in-Ok-clause-ok : goal.returns-in-Ok-clause-ok
returns-in-Ok-clause-ok c = λ frame passed.
    ap (λ (t : Decided). outcome_decided frame (told_as t)) c.in-Recorded.is
    ∙ ap Some (sym (c.outcome_of_taken-outcome.ensures ∙ sym (same_outcome c.parts.result.now c.in-Recorded.new_row.message) ∙ ap taken_outcome c.parts.ensures))

pub returns-in-Ok-clause-added : goal.returns-in-Ok-clause-added
returns-in-Ok-clause-added c =
    subst (λ (t : Decided). AreAdded c.args.log.now.end (rows_decided (told_as t)) c.args.core.now c.add_new_row.new.core c.args.window.now.places c.add_new_row.new.window.places c.args.pending.now c.add_new_row.new.pending) (sym c.in-Recorded.is)
    (added_one c.args.log.now.end (Row.Taken c.in-Recorded.new_row) _ _ _ _ _ _ c.in-Ok.ensures.ok)

pub returns-in-Err-clause-late : goal.returns-in-Err-clause-late
returns-in-Err-clause-late c =
    subst (λ (t : Decided). IsTooLate c.args.log.now c.args.pending.now (told_as t) c.in-Err.fault) (sym c.in-Recorded.is)
    (late_one c.args.log.now c.args.pending.now (recorded c.in-Recorded.new_row) (Row.Taken c.in-Recorded.new_row) c.in-Err.fault c.in-Err.ensures.cause
    (λ e is. (Row.Taken c.in-Recorded.new_row, refl, λ before has. c.add_new_row.ensures.full e (c.in-Err.is ∙ ap Err is) before has)))
