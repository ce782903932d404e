-- Where no authority is left, all those of a method have fallen.
use Rattle.std.proofs.Common.{◌≡◌, ℕ, List, Bool, Result, Ok, Err, subst}
use Rattle.std.specs.Prelude.{⊤}
use Rattle.at_syntax.specs.Did.{method_of}
use Rattle.at_authority.specs.Panels.{Panel, IsSpent}
use Rattle.at_event.specs.Frames.{frame_of}
use Rattle.at_event.specs.declared.frame.Frame.{Frame}
use Rattle.at_event.specs.declared.frame.FrameFault.{FrameFault}
use Rattle.gate_log.specs.Log.{LogState}
use Rattle.relay_core.specs.declared.journal_state.Core.{Core}
use Rattle.relay_step.specs.Around.{Around}
use Rattle.relay_step.specs.Causes.{IsSpentFor}
use Rattle.relay_step.specs.Messages.{EndsNumbers}
use Rattle.relay_step.specs.Steps.{Decided}
use Rattle.relay_store.specs.Faults.{IsCause}
use Rattle.store_take.specs.Taking.{IsInVain, IsTooLate}
use Rattle.relay_store.specs.declared.pending.Pending.{Pending}
use Rattle.relay_store.specs.declared.fault.StoreFault.{StoreFault}

spent_for : (state : Core) (host : List ℕ) (frame : Result Frame FrameFault) (panel : Panel) → IsSpentFor state host frame panel → (method : List ℕ) × IsSpent (panel method)
spent_for state host (Ok (Frame.Event e)) panel spent = (method_of e.did, spent.2)
spent_for state host (Ok (Frame.Faulty n)) panel spent = absurd spent
spent_for state host (Ok Frame.Info) panel spent = absurd spent
spent_for state host (Ok Frame.Error) panel spent = absurd spent
spent_for state host (Ok Frame.Unknown) panel spent = absurd spent
spent_for state host (Err f) panel spent = absurd spent

pub spent_vain : (C R : Bool) (state state_now : Core) (host message : List ℕ) (a b : Around) (f : StoreFault) → IsInVain C R state state_now host message a b f → f ≡ StoreFault.Authority → (method : List ℕ) × IsSpent (b.panel method)
spent_vain C R state state_now host message a b f vain is =
    spent_for state host (frame_of message) b.panel (subst (IsCause (EndsNumbers C R state a host (frame_of message) b) (IsSpentFor state host (frame_of message) b.panel) ⊤ ⊤) is vain.ends)

pub late_not_authority : (log : LogState) (d : Pending) (told : Decided) (f : StoreFault) → IsTooLate log d told f → f ≡ StoreFault.Authority → ⊥
late_not_authority log d told f late is = subst (IsTooLate log d told) is late
