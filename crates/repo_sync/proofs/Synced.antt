-- What the lines of a `#sync` event tell.
use Rattle.std.proofs.Common.{◌≡◌, ℕ, Bool, false, cond, length, Option, Some, None, Result, Ok, Err, refl, sym, ap, ◌∙◌, subst}
use Rattle.std.specs.Prelude.{IfOk, IfErr, OnOk, nat_lt}
use Rattle.at_car.specs.Car.{car_of}
use Rattle.at_event.specs.declared.event.SyncEvent.{SyncEvent}
use Rattle.at_event.specs.declared.refusal.Refusal.{Refusal}
use Rattle.event_checks.proofs.Firsts.{first_unjudged, lines_first, lines_on}
use Rattle.event_checks.specs.Faults.{IsShown}
use Rattle.event_checks.specs.Lines.{first_of}
use Rattle.event_checks.specs.Opening.{CarResult, car_lines, form_lines, object_lines}
use Rattle.event_checks.specs.Table.{is_stale, sync_lines}
use Rattle.event_checks.specs.declared.fault.OpenFault.{OpenFault}
use Rattle.event_checks.specs.declared.limits.TheConstants.{MOST_SYNC_BYTES}
use Rattle.repo_sync.specs.Repository.{found_of}
use Rattle.repo_sync.specs.Sync.{IsFoundIn, IsSynced, IsUnjudged, SyncsExactly}
use Rattle.repo_sync.specs.declared.found.Found.{Found}

-- what the lines tell, by whether the blocks are too long, the revision is stale, and what the blocks read as
told_by : SyncEvent → Bool → Bool → CarResult → Option Refusal
told_by e long stale car = cond long (Some Refusal.BlocksTooLong) (cond stale (Some Refusal.Stale) (first_of (car_lines car None e.did e.rev)))

module _ (e : SyncEvent) (last : Option ℕ) (short : nat_lt MOST_SYNC_BYTES (length e.blocks) ≡ false) (fresh : is_stale last e.rev ≡ false) where
  told_car : first_of (sync_lines e last) ≡ first_of (car_lines (car_of e.blocks) None e.did e.rev)
  unfolding told_by
  told_car = ap (λ t. told_by e t (is_stale last e.rev) (car_of e.blocks)) short ∙ ap (λ t. told_by e false t (car_of e.blocks)) fresh

  pub shown_unread : (fault : OpenFault) → IsShown (first_of (form_lines (car_of e.blocks))) fault → IsShown (first_of (sync_lines e last)) fault
  shown_unread (OpenFault.Refused r) shown = told_car ∙ lines_first (form_lines (car_of e.blocks)) (object_lines (car_of e.blocks) None e.did e.rev) r shown
  shown_unread OpenFault.Memory shown = tt

  module _ (car : CarResult) (is : car_of e.blocks ≡ car) (formed : first_of (form_lines (car_of e.blocks)) ≡ None) where
    told_object : first_of (sync_lines e last) ≡ first_of (object_lines car None e.did e.rev)
    told_object =
        told_car ∙ lines_on (form_lines (car_of e.blocks)) (object_lines (car_of e.blocks) None e.did e.rev) formed
        ∙ ap (λ c. first_of (object_lines c None e.did e.rev)) is

    pub shown_object : (result : Result Found OpenFault) → IfErr result (IsShown (first_of (object_lines car None e.did e.rev))) → IfErr result (IsShown (first_of (sync_lines e last)))
    shown_object (Ok found) shown = tt
    shown_object (Err (OpenFault.Refused r)) shown = told_object ∙ shown
    shown_object (Err OpenFault.Memory) shown = tt

    pub synced : (result : Result Found OpenFault) → OnOk result (first_of (object_lines car None e.did e.rev) ≡ None) → IfOk result (IsFoundIn car) → IfOk result (IsSynced e last)
    synced (Ok found) shown held = record { shown = told_object ∙ shown; found_in = subst (λ c. IsFoundIn c found) (sym is) held }
    synced (Err fault) shown held = tt

-- the blocks hold one commit object
some_same : {A : Type 0} (x y : A) → Some x ≡ Some y → x ≡ y
some_same x y e = cc

one_found : (car : CarResult) (f g : Found) → IsFoundIn car f → IsFoundIn car g → f ≡ g
one_found car f g p q =
    let link = some_same p.link q.link (sym p.held.root_is ∙ q.held.root_is) in
    let block = some_same p.block q.block (sym p.held.block_is ∙ q.held.block_is) in
    let commit = some_same p.commit q.commit (sym p.held.object_is ∙ q.held.object_is) in
    p.found_is ∙ ap (λ l. found_of l p.block p.commit 0) link ∙ ap (λ b. found_of q.link b p.commit 0) block ∙ ap (λ c. found_of q.link q.block c 0) commit ∙ sym q.found_is

shown_or_not : (told : Option Refusal) (refusal : Refusal) → told ≡ Some refusal → told ≡ None → ⊥
shown_or_not told refusal some none = cc

-- so an answer is exact
pub syncs_exactly : (e : SyncEvent) (last : Option ℕ) (result : Result Found OpenFault) → IfOk result (IsSynced e last) → IfErr result (IsShown (first_of (sync_lines e last))) → SyncsExactly e last result
syncs_exactly e last (Err OpenFault.Memory) found refused = λ answer is. tt
syncs_exactly e last (Ok f) found refused = go
  where
    go : SyncsExactly e last (Ok f)
    go (Ok g) is = ap (λ (x : Found). Ok x) (one_found (car_of e.blocks) g f is.found_in found.found_in)
    go (Err r) is = absurd (shown_or_not (first_of (sync_lines e last)) r is found.shown)
syncs_exactly e last (Err (OpenFault.Refused s)) found refused = go
  where
    go : SyncsExactly e last (Err (OpenFault.Refused s))
    go (Ok g) is = absurd (shown_or_not (first_of (sync_lines e last)) s refused is.shown)
    go (Err r) is = ap (λ (x : Refusal). Err x) (some_same r s (sym is ∙ refused))

-- no line is a judge's
pub sync_unjudged : (e : SyncEvent) (last : Option ℕ) (result : Result Found OpenFault) → IfErr result (IsShown (first_of (sync_lines e last))) → IfErr result IsUnjudged
sync_unjudged e last (Ok found) shown = tt
sync_unjudged e last (Err OpenFault.Memory) shown = tt
sync_unjudged e last (Err (OpenFault.Refused r)) shown = first_unjudged (sync_lines e last) r (refl, (refl, (refl, (refl, (refl, (refl, (refl, (refl, tt)))))))) shown
