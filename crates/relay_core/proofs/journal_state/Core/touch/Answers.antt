use Rattle.std.proofs.Common.{refl, sym, subst}
use Rattle.relay_core.specs.Entries.{Holds}
use Rattle.relay_core.specs.declared.journal_state.Core.{Core}
use Rattle.relay_core.proofs.Holding.{same_holds}
use Rattle.relay_core.proofs.journal_state.Core.touch.Goals as goal
use Rattle.relay_core.proofs.journal_state.Core.touch.Goals.{then-not-is_empty+in_ok-touch, else-not-is_empty}

pub returns-in_err-touch-2-clause-holds : goal.returns-in_err-touch-2-clause-holds
returns-in_err-touch-2-clause-holds c = λ rows h.
    let touched : Holds c.if-not-is_empty.self rows =
    elim c.if-not-is_empty.branch [
      | then-not-is_empty+in_ok-touch w ↦ subst (λ (d : Core). Holds d rows) (sym w.self-is) (same_holds c.args.self.now _ (λ name. refl) w.touch.ensures.listed refl refl rows h)
      | else-not-is_empty w ↦ subst (λ (d : Core). Holds d rows) (sym w.self-is) h
    ] in
    same_holds c.if-not-is_empty.self _ c.touch-then-not-is_empty-2.ensures.entries refl refl refl rows touched

pub returns-in_ok-touch-2-clause-holds : goal.returns-in_ok-touch-2-clause-holds
returns-in_ok-touch-2-clause-holds c = λ rows h.
    let touched : Holds c.if-not-is_empty.self rows =
    elim c.if-not-is_empty.branch [
      | then-not-is_empty+in_ok-touch w ↦ subst (λ (d : Core). Holds d rows) (sym w.self-is) (same_holds c.args.self.now _ (λ name. refl) w.touch.ensures.listed refl refl rows h)
      | else-not-is_empty w ↦ subst (λ (d : Core). Holds d rows) (sym w.self-is) h
    ] in
    same_holds c.if-not-is_empty.self _ c.touch-then-not-is_empty-2.ensures.entries refl refl refl rows touched
