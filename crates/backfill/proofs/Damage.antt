-- Where damage was found last, by what is answered.
use Rattle.std.proofs.Common.{◌≡◌, ℕ, Option, Result, Ok, Err, IfOk, ◌⊎◌, inl, inr, refl, sym, ap, ◌∙◌}
use Rattle.event_window.specs.Held.{damage_after}
use Rattle.event_window.specs.declared.fault.EventsFault.{EventsFault}
use Rattle.backfill.specs.Faults.{damage_replayed, damage_served, replay_fault, serve_fault}
use Rattle.backfill.specs.declared.replay_fault.ReplayFault.{ReplayFault}
use Rattle.backfill.specs.declared.serve_fault.ServeFault.{ServeFault}

-- of a fault that came of reading
replayed_fault : (A : Type 0) (before : Option ℕ) (f : EventsFault) → damage_after {A = Option ℕ} before (Err f) ≡ damage_replayed {A = A} before (Err (replay_fault f))
replayed_fault A before EventsFault.Disk = refl
replayed_fault A before EventsFault.Memory = refl
replayed_fault A before (EventsFault.BadLog place) = refl

pub replayed_by : {A : Type 0} (before mid now : Option ℕ) (f : EventsFault) (r : Result A ReplayFault) → r ≡ Err (replay_fault f) → now ≡ damage_after {A = Option ℕ} mid (Err f) → mid ≡ before → now ≡ damage_replayed before r
replayed_by {A} before mid now f r is found same =
    found ∙ ap (λ (d : Option ℕ). damage_after {A = Option ℕ} d (Err f)) same ∙ replayed_fault A before f ∙ ap (λ (x : Result A ReplayFault). damage_replayed before x) (sym is)

served_fault : (A : Type 0) (before : Option ℕ) (f : EventsFault) → damage_after {A = Option ℕ} before (Err f) ≡ damage_served {A = A} before (Err (serve_fault f))
served_fault A before EventsFault.Disk = refl
served_fault A before EventsFault.Memory = refl
served_fault A before (EventsFault.BadLog place) = refl

pub served_by : {A : Type 0} (before mid now : Option ℕ) (f : EventsFault) (r : Result A ServeFault) → r ≡ Err (serve_fault f) → now ≡ damage_after {A = Option ℕ} mid (Err f) → mid ≡ before → now ≡ damage_served before r
served_by {A} before mid now f r is found same =
    found ∙ ap (λ (d : Option ℕ). damage_after {A = Option ℕ} d (Err f)) same ∙ served_fault A before f ∙ ap (λ (x : Result A ServeFault). damage_served before x) (sym is)

after_fault : (A B : Type 0) (before : Option ℕ) (f : EventsFault) → damage_after {A = A} before (Err f) ≡ damage_after {A = B} before (Err f)
after_fault A B before EventsFault.Disk = refl
after_fault A B before EventsFault.Memory = refl
after_fault A B before (EventsFault.BadLog place) = refl

pub after_same : (A : Type 0) {B : Type 0} (before now : Option ℕ) (f : EventsFault) (r : Result B EventsFault) → r ≡ Err f → now ≡ damage_after {A = A} before (Err f) → now ≡ damage_after before r
after_same A {B} before now f r is found = found ∙ after_fault A B before f ∙ ap (λ (x : Result B EventsFault). damage_after before x) (sym is)

-- memory ran out
pub after_memory : {B : Type 0} (before : Option ℕ) (r : Result B EventsFault) → r ≡ Err EventsFault.Memory → before ≡ damage_after before r
after_memory {B} before r is = ap (λ (x : Result B EventsFault). damage_after before x) (sym is)

-- of one that didn't
replayed_other : (A : Type 0) (before : Option ℕ) (f : ReplayFault) → ((place : ℕ) → f ≡ ReplayFault.BadLog place → ⊥) → damage_replayed {A = A} before (Err f) ≡ before
replayed_other A before ReplayFault.Output other = refl
replayed_other A before ReplayFault.Disk other = refl
replayed_other A before ReplayFault.Memory other = refl
replayed_other A before (ReplayFault.BadLog place) other = absurd (other place refl)

pub replayed_none : {A : Type 0} (before now : Option ℕ) (f : ReplayFault) (r : Result A ReplayFault) → r ≡ Err f → ((place : ℕ) → f ≡ ReplayFault.BadLog place → ⊥) → now ≡ before → now ≡ damage_replayed before r
replayed_none {A} before now f r is other same = same ∙ sym (replayed_other A before f other) ∙ ap (λ (x : Result A ReplayFault). damage_replayed before x) (sym is)

served_other : (A : Type 0) (before : Option ℕ) (f : ServeFault) → ((place : ℕ) → f ≡ ServeFault.BadLog place → ⊥) → damage_served {A = A} before (Err f) ≡ before
served_other A before (ServeFault.Door sent) other = refl
served_other A before ServeFault.Disk other = refl
served_other A before ServeFault.Memory other = refl
served_other A before (ServeFault.BadLog place) other = absurd (other place refl)

pub served_none : {A : Type 0} (before now : Option ℕ) (f : ServeFault) (r : Result A ServeFault) → r ≡ Err f → ((place : ℕ) → f ≡ ServeFault.BadLog place → ⊥) → now ≡ before → now ≡ damage_served before r
served_none {A} before now f r is other same = same ∙ sym (served_other A before f other) ∙ ap (λ (x : Result A ServeFault). damage_served before x) (sym is)

-- the same fault, behind another answer
fault_same : (A B : Type 0) (before : Option ℕ) (f : ServeFault) → damage_served {A = A} before (Err f) ≡ damage_served {A = B} before (Err f)
fault_same A B before (ServeFault.Door sent) = refl
fault_same A B before ServeFault.Disk = refl
fault_same A B before ServeFault.Memory = refl
fault_same A B before (ServeFault.BadLog place) = refl

pub served_same : (A : Type 0) {B : Type 0} (before now : Option ℕ) (f : ServeFault) (r : Result B ServeFault) → r ≡ Err f → now ≡ damage_served {A = A} before (Err f) → now ≡ damage_served before r
served_same A {B} before now f r is found = found ∙ fault_same A B before f ∙ ap (λ (x : Result B ServeFault). damage_served before x) (sym is)

-- an output that failed behind what was answered
output_failed : (before : Option ℕ) (was : Result ℕ ReplayFault) (fault : ReplayFault) → fault ≡ ReplayFault.Output → ((place : ℕ) → was ≡ Err (ReplayFault.BadLog place) → fault ≡ ReplayFault.BadLog place)
    → damage_replayed before was ≡ damage_replayed {A = ℕ} before (Err fault)
output_failed before (Ok n) fault is told = ap (λ (f : ReplayFault). damage_replayed {A = ℕ} before (Err f)) (sym is)
output_failed before (Err ReplayFault.Output) fault is told = ap (λ (f : ReplayFault). damage_replayed {A = ℕ} before (Err f)) (sym is)
output_failed before (Err ReplayFault.Disk) fault is told = ap (λ (f : ReplayFault). damage_replayed {A = ℕ} before (Err f)) (sym is)
output_failed before (Err ReplayFault.Memory) fault is told = ap (λ (f : ReplayFault). damage_replayed {A = ℕ} before (Err f)) (sym is)
output_failed before (Err (ReplayFault.BadLog place)) fault is told = ap (λ (f : ReplayFault). damage_replayed {A = ℕ} before (Err f)) (sym (told place refl))

failed_damage : (before : Option ℕ) (was : Result ℕ ReplayFault) (fault : ReplayFault) → (was ≡ Err fault) ⊎ (fault ≡ ReplayFault.Output)
    → ((place : ℕ) → was ≡ Err (ReplayFault.BadLog place) → fault ≡ ReplayFault.BadLog place) → damage_replayed before was ≡ damage_replayed {A = ℕ} before (Err fault)
failed_damage before was fault (inl is) told = ap (λ (x : Result ℕ ReplayFault). damage_replayed before x) is
failed_damage before was fault (inr output) told = output_failed before was fault output told

pub finished_damage : (before : Option ℕ) (was result : Result ℕ ReplayFault) → IfOk result (λ n. was ≡ Ok n)
    → ((fault : ReplayFault) → result ≡ Err fault → (was ≡ result) ⊎ (fault ≡ ReplayFault.Output))
    → ((place : ℕ) → was ≡ Err (ReplayFault.BadLog place) → result ≡ Err (ReplayFault.BadLog place))
    → damage_replayed before was ≡ damage_replayed before result
finished_damage before was (Ok n) whole same told = ap (λ (x : Result ℕ ReplayFault). damage_replayed before x) whole
finished_damage before was (Err fault) whole same told = failed_damage before was fault (same fault refl) (λ place is.
    let answer = told place is in
    let this : fault ≡ ReplayFault.BadLog place = cc in
    this)
