use Rattle.std.proofs.Common.{◌∙◌, [], ◌∷◌, Err, refl, sym, ap, subst}
use Rattle.relay_step.specs.Commands.{rows_commanded}
use Rattle.relay_step.specs.declared.command.CommandAnswer.{CommandAnswer}
use Rattle.store_take.specs.Taking.{AreAdded}
use Rattle.store_take.specs.Commands.{IsLate}
use Rattle.store_take.proofs.CommandDone.{late_command}
use Rattle.store_take.proofs.Turns.{added_one}
use Rattle.store_take.proofs.commanding.take_command.Goals as goal

pub returns-in-Ok-clause-added : goal.returns-in-Ok-clause-added
returns-in-Ok-clause-added c =
    subst (λ (w : CommandAnswer). AreAdded c.args.log.now.end (rows_commanded w) c.args.core.now c.add_row.new.core c.args.window.now.places c.add_row.new.window.places c.args.pending.now c.add_row.new.pending) (sym c.in-Made.is)
    (added_one c.args.log.now.end c.in-Made.row _ _ _ _ _ _ c.in-Ok.ensures.ok)

pub returns-in-Err-clause-late : goal.returns-in-Err-clause-late
returns-in-Err-clause-late c =
    subst (λ (w : CommandAnswer). IsLate c.args.log.now c.args.pending.now (rows_commanded w) c.in-Err.fault) (sym c.in-Made.is)
    (late_command c.args.log.now c.args.pending.now (c.in-Made.row ∷ []) c.in-Made.row c.in-Err.fault c.in-Err.ensures.cause
    (λ e is. (c.in-Made.row, refl, λ before has. c.add_row.ensures.full e (c.in-Err.is ∙ ap Err is) before has)))
