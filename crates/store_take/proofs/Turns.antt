-- What comes of one message.
use Rattle.std.proofs.Common.{◌≡◌, inl, inr, ◌⊎◌, ℕ, List, [], ◌∷◌, ◌++◌, length, drop, Some, Result, Ok, Err, refl, sym, ◌∙◌, ap, subst, arith, length-append, Bool}
use Rattle.std.specs.Prelude.{⊤, IfErr, IfOk, OnErr, OnOk}
use Rattle.std.proofs.lemmas.List.{append-nil, drop-append-le}
use Rattle.event_window.specs.declared.place.Place.{Place}
use Rattle.gate_log.specs.Log.{LogState}
use Rattle.gate_log.specs.declared.pending_bodies.TheConstants.{AHEAD}
use Rattle.at_event.specs.Frames.{frame_of}
use Rattle.row_codec.specs.Bodies.{row_encoding, encoded_rows}
use Rattle.relay_row.specs.declared.row.Row.{Row}
use Rattle.row_codec.proofs.Bodies.{encoded_joined}
use Rattle.relay_core.specs.declared.journal_state.Core.{Core}
use Rattle.relay_core.specs.Entries.{Holds}
use Rattle.relay_step.specs.Around.{Around}
use Rattle.relay_step.specs.Causes.{AskedInVainOf, CameToNothing, IsSpentFor}
use Rattle.relay_step.specs.Causes.{IsCause as IsStepCause}
use Rattle.relay_step.specs.Messages.{EndsNumbers}
use Rattle.relay_step.specs.Steps.{Decided, rows_decided}
use Rattle.relay_step.specs.declared.fault.StepFault.{StepFault}
use Rattle.relay_store.specs.PendingBodies.{HasRows, IsAdded, IsUnchanged}
use Rattle.relay_store.specs.Faults.{IsCause, IsRisen}
use Rattle.store_take.specs.Faults.{of_step}
use Rattle.store_take.specs.Outcomes.{outcome_decided}
use Rattle.store_take.specs.Taking.{AreAdded, ComesOfAsking, IsInVain, IsTaken, IsTooLate, Prepared}
use Rattle.relay_store.specs.declared.pending.Pending.{Pending}
use Rattle.relay_store.specs.declared.fault.StoreFault.{StoreFault}
use Rattle.store_take.specs.declared.outcome.Outcome.{Outcome}
use Rattle.relay_store.proofs.Folds.{places_one}

pub added_none : (end : ℕ) (state : Core) (places : List Place) (d : Pending) → AreAdded end [] state state places places d d
added_none end state places d = record {
  core = λ J holds. subst (Holds state) (sym (append-nil J)) holds;
  window = sym (append-nil places);
  pending = λ before has. subst (λ (l : List Row). HasRows l d) (sym (append-nil before)) has;
}

pub added_one : (end : ℕ) (row : Row) (state state_now : Core) (places places_now : List Place) (d d_now : Pending) → IsAdded end row state state_now places places_now d d_now → AreAdded end (row ∷ []) state state_now places places_now d d_now
added_one end row state state_now places places_now d d_now added = record {
  core = added.core;
  window = added.window ∙ ap (λ (l : List Place). places ++ l) (sym (places_one end d.count row));
  pending = λ before has. record {
    begun = omega (arith, has.begun, ap length added.body, length-append d.body (row_encoding row));
    encoded_are = ap (λ (l : List ℕ). drop AHEAD l) added.body ∙ drop-append-le AHEAD d.body (row_encoding row) has.begun ∙ ap (λ (l : List ℕ). l ++ row_encoding row) has.encoded_are
        ∙ ap (λ (l : List ℕ). encoded_rows before ++ l) (sym (append-nil (row_encoding row))) ∙ sym (encoded_joined before (row ∷ []));
    count = omega (arith, added.count, has.count, length-append before (row ∷ []));
  };
}

pub late_one : (log : LogState) (d : Pending) (told : Decided) (row : Row) (f : StoreFault) → ((f ≡ StoreFault.Memory) ⊎ ((e : ℕ) × (f ≡ StoreFault.Full e)))
    → ((e : ℕ) → f ≡ StoreFault.Full e → IsTooLate log d told (StoreFault.Full e)) → IsTooLate log d told f
late_one log d told row f (inl memory) full = subst (IsTooLate log d told) (sym memory) tt
late_one log d told row f (inr is) full = subst (IsTooLate log d told) (sym is.1) (full is.0 is.1)

of_asking : (f : StepFault) → ComesOfAsking (of_step f)
of_asking StepFault.SeqEnd = tt
of_asking StepFault.Authority = tt
of_asking StepFault.Repos = tt
of_asking StepFault.Clock = tt
of_asking StepFault.Memory = tt

cause_of : (ends spent repos clock : Type 0) (f : StepFault) → IsStepCause ends spent repos clock f → IsCause ends spent ⊤ ⊤ (of_step f)
cause_of ends spent repos clock StepFault.SeqEnd cause = cause
cause_of ends spent repos clock StepFault.Authority cause = cause
cause_of ends spent repos clock StepFault.Repos cause = tt
cause_of ends spent repos clock StepFault.Clock cause = tt
cause_of ends spent repos clock StepFault.Memory cause = tt

pub risen_of : (ends spent repos clock : Type 0) (f : StepFault) → IsStepCause ends spent repos clock f → IsRisen repos clock (of_step f)
risen_of ends spent repos clock StepFault.SeqEnd cause = tt
risen_of ends spent repos clock StepFault.Authority cause = tt
risen_of ends spent repos clock StepFault.Repos cause = cause
risen_of ends spent repos clock StepFault.Clock cause = cause
risen_of ends spent repos clock StepFault.Memory cause = tt

pub risen_late : (log : LogState) (d : Pending) (told : Decided) (repos clock : Type 0) (f : StoreFault) → IsTooLate log d told f → IsRisen repos clock f
risen_late log d told repos clock StoreFault.Disk late = absurd late
risen_late log d told repos clock (StoreFault.BadLog p) late = absurd late
risen_late log d told repos clock (StoreFault.Full e) late = tt
risen_late log d told repos clock StoreFault.SeqEnd late = absurd late
risen_late log d told repos clock StoreFault.Authority late = absurd late
risen_late log d told repos clock StoreFault.Repos late = absurd late
risen_late log d told repos clock StoreFault.Memory late = tt
risen_late log d told repos clock StoreFault.Clock late = absurd late

pub vain_of : (clock_tells repos_tell : Bool) (state : Core) (host message : List ℕ) (old new : Around) (repos clock : Type 0) (f : StepFault) → CameToNothing clock_tells repos_tell (AskedInVainOf old.panel (frame_of message) new.panel) old new
    → IsStepCause (EndsNumbers clock_tells repos_tell state old host (frame_of message) new) (IsSpentFor state host (frame_of message) new.panel) repos clock f → IsInVain clock_tells repos_tell state state host message old new (of_step f)
vain_of clock_tells repos_tell state host message old new repos clock f asked cause = record {
  of_asking = of_asking f;
  same = refl;
  asked = asked;
  ends = cause_of _ _ repos clock f cause;
}

pub unchanged_here : (state : Core) (places : List Place) (d : Pending) → IsUnchanged state state places places d d
unchanged_here state places d = record { core = λ J holds. holds; window = refl; body = refl; count = refl }

module _ (C R : Bool) (log : LogState) (host message : List ℕ) (state state_now : Core) (places places_now : List Place) (d d_now : Pending) (a b : Around) (told : Decided) where
  pub prepared_by : IsTaken C R state host message told a b → (r : Result Outcome StoreFault) → IfOk r (λ o. outcome_decided (frame_of message) told ≡ Some o) → OnOk r (AreAdded log.end (rows_decided told) state state_now places places_now d d_now)
      → OnErr r (IsUnchanged state state_now places places_now d d_now) → IfErr r (IsTooLate log d told) → Prepared C R log host message state state_now places places_now d d_now a b r
  prepared_by taken (Ok o) is added same late = (told, taken, is, added)
  prepared_by taken (Err f) is added same late = (same, inr (told, taken, late))

pub risen_by : (log : LogState) (d : Pending) (told : Decided) (repos clock : Type 0) (r : Result Outcome StoreFault) → IfErr r (IsTooLate log d told) → IfErr r (IsRisen repos clock)
risen_by log d told repos clock (Ok o) late = tt
risen_by log d told repos clock (Err f) late = risen_late log d told repos clock f late
