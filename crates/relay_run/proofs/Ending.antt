-- How the commands end, from what the store answered.
use Rattle.std.proofs.Common.{◌≡◌, ◌∙◌, inl, inr, ℕ, List, Err, Bool, refl, sym, ap, subst}
use Rattle.at_authority.specs.Panels.{Panel}
use Rattle.at_event.specs.Refusals.{code_of}
use Rattle.relay_disk.specs.Disk.{View}
use Rattle.relay_row.specs.declared.row.Row.{Row}
use Rattle.relay_step.specs.Causes.{SpendsNone}
use Rattle.relay_step.specs.declared.command.CommandAnswer.{CommandAnswer}
use Rattle.store_take.specs.Commands.{CommandDone, IsAnswer, IsOfOperating}
use Rattle.relay_store.specs.Opening.{IsOfReading}
use Rattle.store_cut.specs.Rewriting.{IsOfRewriting}
use Rattle.relay_store.specs.Store.{StoreState}
use Rattle.store_take.specs.Taking.{ComesOfAsking}
use Rattle.store_cut.specs.declared.cutting.CutDone.{CutDone}
use Rattle.store_take.specs.declared.done.Done.{Done}
use Rattle.relay_store.specs.declared.fault.StoreFault.{StoreFault}
use Rattle.at_cid.specs.Counts.{Counted}
use Rattle.run_base.specs.Deeds.{by_end}
use Rattle.run_base.specs.Statuses.{status_of_fault}
use Rattle.run_base.specs.declared.status.Status.{Status}
use Rattle.run_base.proofs.Ended.{IsAtLine, same_fault, uncounted}
use Rattle.relay_run.specs.Lines.{EndsCut, IsDone, IsEndOf, MayEndCutting, MayEndOperating, MayEndShowing, MayEndSyncing}

-- ---- at a line

pub done_line : (status : Status) → IsDone status → IsAtLine status
done_line status (inl is) = inl is
done_line status (inr is) = inr (inl is)

pub end_line : (done : Done) (status : Status) → IsEndOf done status → IsAtLine status
end_line (Done.Event seq) status is = done_line status is
end_line (Done.Synced seq records) status is = done_line status is
end_line (Done.Refused r) status (inl is) = inr (inr (inl (code_of r, is)))
end_line (Done.Refused r) status (inr (inl is)) = inr (inl is)
end_line (Done.Refused r) status (inr (inr is)) = inr (inr (inr is))

pub cut_line : (done : CutDone) (status : Status) → EndsCut done status → IsAtLine status
cut_line (CutDone.Cut oldest last) status is = done_line status is
cut_line (CutDone.Refused r) status is = end_line (Done.Refused r) status is

-- what is kept at a good end
pub by_done : {A : Type 0} (done undone : A) (status : Status) → IsDone status → by_end status done undone ≡ done
by_done done undone status (inl is) = ap (λ (s : Status). by_end s done undone) is
by_done done undone status (inr is) = ap (λ (s : Status). by_end s done undone) is

pub done_not_memory : (status : Status) → IsDone status → status ≡ Status.Memory → ⊥
done_not_memory status (inl is) at = done_not (sym is ∙ at)
  where
    done_not : Status.Done ≡ Status.Memory → ⊥
    done_not is = cc
done_not_memory status (inr is) at = write_not (sym is ∙ at)
  where
    write_not : Status.WriteFault ≡ Status.Memory → ⊥
    write_not is = cc

-- ---- which statuses may come

pub line_cutting : (status : Status) → IsAtLine status → MayEndCutting status
line_cutting status (inl is) = subst MayEndCutting (sym is) tt
line_cutting status (inr (inl is)) = subst MayEndCutting (sym is) tt
line_cutting status (inr (inr (inl (code, is)))) = subst MayEndCutting (sym is) tt
line_cutting status (inr (inr (inr is))) = subst MayEndCutting (sym is) tt

pub line_operating : (status : Status) → IsAtLine status → MayEndOperating status
line_operating status (inl is) = subst MayEndOperating (sym is) tt
line_operating status (inr (inl is)) = subst MayEndOperating (sym is) tt
line_operating status (inr (inr (inl (code, is)))) = subst MayEndOperating (sym is) tt
line_operating status (inr (inr (inr is))) = subst MayEndOperating (sym is) tt

pub line_syncing : (status : Status) → IsAtLine status → MayEndSyncing status
line_syncing status (inl is) = subst MayEndSyncing (sym is) tt
line_syncing status (inr (inl is)) = subst MayEndSyncing (sym is) tt
line_syncing status (inr (inr (inl (code, is)))) = subst MayEndSyncing (sym is) tt
line_syncing status (inr (inr (inr is))) = subst MayEndSyncing (sym is) tt

pub done_showing : (status : Status) → IsDone status → MayEndShowing status
done_showing status (inl is) = subst MayEndShowing (sym is) tt
done_showing status (inr is) = subst MayEndShowing (sym is) tt

pub fault_showing : (fault : StoreFault) (status : Status) → status ≡ status_of_fault fault → IsOfReading fault → MayEndShowing status
fault_showing fault status is of = subst MayEndShowing (sym is) (may fault of)
  where
    may : (f : StoreFault) → IsOfReading f → MayEndShowing (status_of_fault f)
    may StoreFault.Disk of = tt
    may (StoreFault.BadLog p) of = tt
    may (StoreFault.Full e) of = absurd of
    may StoreFault.SeqEnd of = absurd of
    may StoreFault.Authority of = absurd of
    may StoreFault.Repos of = absurd of
    may StoreFault.Memory of = tt
    may StoreFault.Clock of = absurd of

pub fault_cutting : (fault : StoreFault) (status : Status) → status ≡ status_of_fault fault → IsOfRewriting fault → MayEndCutting status
fault_cutting fault status is of = subst MayEndCutting (sym is) (may fault of)
  where
    may : (f : StoreFault) → IsOfRewriting f → MayEndCutting (status_of_fault f)
    may StoreFault.Disk of = tt
    may (StoreFault.BadLog p) of = tt
    may (StoreFault.Full e) of = tt
    may StoreFault.SeqEnd of = absurd of
    may StoreFault.Authority of = absurd of
    may StoreFault.Repos of = absurd of
    may StoreFault.Memory of = tt
    may StoreFault.Clock of = absurd of

pub fault_operating : (fault : StoreFault) (status : Status) → status ≡ status_of_fault fault → (fault ≡ StoreFault.Authority → ⊥) → (fault ≡ StoreFault.Repos → ⊥) → MayEndOperating status
fault_operating fault status is spent repos = subst MayEndOperating (sym is) (may fault spent repos)
  where
    may : (f : StoreFault) → (f ≡ StoreFault.Authority → ⊥) → (f ≡ StoreFault.Repos → ⊥) → MayEndOperating (status_of_fault f)
    may StoreFault.Disk spent repos = tt
    may (StoreFault.BadLog p) spent repos = tt
    may (StoreFault.Full e) spent repos = tt
    may StoreFault.SeqEnd spent repos = tt
    may StoreFault.Authority spent repos = absurd (spent refl)
    may StoreFault.Repos spent repos = absurd (repos refl)
    may StoreFault.Memory spent repos = tt
    may StoreFault.Clock spent repos = tt

pub fault_syncing : (fault : StoreFault) (status : Status) → status ≡ status_of_fault fault → MayEndSyncing status
fault_syncing fault status is = subst MayEndSyncing (sym is) (may fault)
  where
    may : (f : StoreFault) → MayEndSyncing (status_of_fault f)
    may StoreFault.Disk = tt
    may (StoreFault.BadLog p) = tt
    may (StoreFault.Full e) = tt
    may StoreFault.SeqEnd = tt
    may StoreFault.Authority = tt
    may StoreFault.Repos = tt
    may StoreFault.Memory = tt
    may StoreFault.Clock = tt

pub reading_rewrites : (fault : StoreFault) → IsOfReading fault → IsOfRewriting fault
reading_rewrites StoreFault.Disk of = tt
reading_rewrites (StoreFault.BadLog p) of = tt
reading_rewrites (StoreFault.Full e) of = absurd of
reading_rewrites StoreFault.SeqEnd of = absurd of
reading_rewrites StoreFault.Authority of = absurd of
reading_rewrites StoreFault.Repos of = absurd of
reading_rewrites StoreFault.Memory of = tt
reading_rewrites StoreFault.Clock of = absurd of

-- reading asks nobody
pub reading_asks : (fault : StoreFault) → IsOfReading fault → ((fault ≡ StoreFault.Authority → ⊥) × (fault ≡ StoreFault.Repos → ⊥)) × (fault ≡ StoreFault.Clock → ⊥)
reading_asks fault of = ((λ is. subst IsOfReading is of, λ is. subst IsOfReading is of), λ is. subst IsOfReading is of)

-- taking an account down asks the clock alone
pub operating_asks : (fault : StoreFault) → IsOfOperating fault → (fault ≡ StoreFault.Authority → ⊥) × (fault ≡ StoreFault.Repos → ⊥)
operating_asks fault of = (λ is. subst IsOfOperating is of, λ is. subst IsOfOperating is of)

-- and cutting asks nobody
pub rewriting_asks : (fault : StoreFault) → IsOfRewriting fault → ((fault ≡ StoreFault.Authority → ⊥) × (fault ≡ StoreFault.Repos → ⊥)) × (fault ≡ StoreFault.Clock → ⊥)
rewriting_asks fault of = ((λ is. subst IsOfRewriting is of, λ is. subst IsOfRewriting is of), λ is. subst IsOfRewriting is of)

-- judges that weren't asked
pub same_judges : {P : Type 0} (panel : P → Panel) (old new : P) → new ≡ old → SpendsNone (panel old) (panel new)
same_judges {P = P} panel old new is = subst (λ (x : P). SpendsNone (panel old) (panel x)) (sym is) (λ name spent. spent)

-- and a part that wasn't
pub same_part : {R : Type 0} (faults : R → ℕ) (failed : Type 0) (old new : R) → new ≡ old → (failed → ⊥) → Counted failed (faults old) (faults new)
same_part {R = R} faults failed old new is not = subst (λ (x : R). Counted failed (faults old) (faults x)) (sym is) (uncounted failed (faults old) not)

-- what can be opened is good
pub commanded_good : {D : Type 0} (view : D → View) (tells : Bool) (J : List Row) (is_command : CommandAnswer → Type 0) (failed : Type 0) (s t : StoreState) (c e : D) (fault : StoreFault)
    → CommandDone view tells J is_command failed s t c e (Err fault) → (p : ℕ) → fault ≡ StoreFault.BadLog p → ⊥
commanded_good view tells J is_command failed s t c e fault (inl said) p is = subst (λ (f : StoreFault). IsAnswer s.log said.0 (Err f)) is said.3.answer
commanded_good view tells J is_command failed s t c e fault (inr unsaid) p is = subst ComesOfAsking (sym (same_fault {A = Done} fault unsaid.fault unsaid.is) ∙ is) unsaid.of_asking
