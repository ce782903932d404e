-- What the disks of both relays show, and what ends it where nothing fails.
use Rattle.std.proofs.Common.{◌≡◌, ◌≢◌, ◌⊎◌, inl, inr, ⊎_elim, ℕ, List, refl, sym, subst}
use Rattle.relay_row.specs.declared.row.Row.{Row}
use Rattle.relay_store.specs.Journals.{IsBadPairJournalAt, IsPairImageOf}
use Rattle.relay_store.specs.Opening.{IsOfReading}
use Rattle.relay_store.specs.declared.fault.StoreFault.{StoreFault}
use Rattle.relay_store.proofs.Images.{no_journal}
use Rattle.run_base.specs.Place.{Place}
use Rattle.run_base.specs.Statuses.{status_of_fault}
use Rattle.run_base.specs.declared.status.Status.{Status}
use Rattle.take_run.proofs.OnTwo.{still_shows}
use Rattle.relay_chain.specs.Disks.{AnyRose, BothShow, CountedOf, Disks, HaveJournal}
use Rattle.relay_chain.specs.Ends.{ChainTold, IsTold, MayEndChaining, MayEndWithoutFailure, read_as}

-- ---- by a fault of opening

pub first_shows : (fault : StoreFault) (status : Status) (first : Disks) (old : Place) → status ≡ status_of_fault fault → IsOfReading fault → ((p : ℕ) → fault ≡ StoreFault.BadLog p → IsBadPairJournalAt p first.one.content first.two.content) → BothShow status first old
first_shows fault status first old is of bad = subst (λ (s : Status). BothShow s first old) (sym is) (by fault of bad)
  where
    by : (f : StoreFault) → IsOfReading f → ((p : ℕ) → f ≡ StoreFault.BadLog p → IsBadPairJournalAt p first.one.content first.two.content) → BothShow (status_of_fault f) first old
    by StoreFault.Disk of bad = (tt, tt)
    by (StoreFault.BadLog p) of bad = inl (bad p refl)
    by (StoreFault.Full e) of bad = absurd of
    by StoreFault.SeqEnd of bad = absurd of
    by StoreFault.Authority of bad = absurd of
    by StoreFault.Repos of bad = absurd of
    by StoreFault.Memory of bad = (tt, tt)
    by StoreFault.Clock of bad = absurd of

pub second_shows : (fault : StoreFault) (status : Status) (first : Disks) (old : Place) → status ≡ status_of_fault fault → IsOfReading fault → (one : List Row) → HaveJournal one first
    → ((p : ℕ) → fault ≡ StoreFault.BadLog p → IsBadPairJournalAt p old.one.content old.two.content) → BothShow status first old
second_shows fault status first old is of one image bad = subst (λ (s : Status). BothShow s first old) (sym is) (by fault of bad)
  where
    by : (f : StoreFault) → IsOfReading f → ((p : ℕ) → f ≡ StoreFault.BadLog p → IsBadPairJournalAt p old.one.content old.two.content) → BothShow (status_of_fault f) first old
    by StoreFault.Disk of bad = (tt, tt)
    by (StoreFault.BadLog p) of bad = inr ((one, image), bad p refl)
    by (StoreFault.Full e) of bad = absurd of
    by StoreFault.SeqEnd of bad = absurd of
    by StoreFault.Authority of bad = absurd of
    by StoreFault.Repos of bad = absurd of
    by StoreFault.Memory of bad = (tt, tt)
    by StoreFault.Clock of bad = absurd of

-- ---- both were opened

-- what was read of a log that is open is good
good_read : (taking : Status) → ((p : ℕ) → taking ≢ Status.BadLog p) → (p : ℕ) → read_as taking ≢ Status.BadLog p
good_read Status.Feed good p = λ is. let no : ⊥ = cc in no
good_read taking good p = good p

pub both_show : (status taking : Status) (first : Disks) (old : Place) (one two : List Row) → status ≡ read_as taking → ((p : ℕ) → taking ≢ Status.BadLog p) → HaveJournal one first → IsPairImageOf two old.one.content old.two.content → BothShow status first old
both_show status taking first old one two is good image other = subst (λ (s : Status). BothShow s first old) (sym is) (by (read_as taking) (good_read taking good))
  where
    by : (s : Status) → ((p : ℕ) → s ≢ Status.BadLog p) → BothShow s first old
    by (Status.BadLog p) good = absurd (good p refl)
    by s good = (still_shows s first.one.content first.two.content one image good, still_shows s old.one.content old.two.content two other good)

-- ---- where nothing fails

module _ (first first_now : Disks) (p q : Place) (none : AnyRose first first_now p.failed q.failed → ⊥) (bad : (at : ℕ) → IsBadPairJournalAt at first.one.content first.two.content ⊎ (((J : List Row) × HaveJournal J first) × IsBadPairJournalAt at p.one.content p.two.content) → ⊥) where
  without_failure : (taking : Status) → CountedOf first first_now (taking ≡ Status.Feed) → IsTold taking p q → MayEndChaining (read_as taking) → BothShow (read_as taking) first p → MayEndWithoutFailure (read_as taking)
  without_failure Status.Done c h may shows = tt
  without_failure Status.Memory c h may shows = tt
  without_failure (Status.Full e) c h may shows = tt
  without_failure Status.SeqEnd c h may shows = tt
  without_failure Status.Feed c h may shows = absurd (⊎_elim (λ rose. none (inl rose)) (λ rose. none (inr (inl rose))) (c.rose refl))
  without_failure Status.Disk c h may shows = absurd (⊎_elim (λ rose. none (inr (inr (inl rose)))) (λ rose. none (inr (inr (inr (inl rose))))) h.caused)
  without_failure Status.WriteFault c h may shows = absurd (none (inr (inr (inr (inr (inl h.caused))))))
  without_failure Status.Repos c h may shows = absurd (none (inr (inr (inr (inr (inr (inl h.caused)))))))
  without_failure Status.Clock c h may shows = absurd (none (inr (inr (inr (inr (inr (inr h.caused)))))))
  without_failure (Status.BadLog at) c h may shows = absurd (bad at shows)
  without_failure taking c h may shows = absurd may

  without_failure_as : (status taking : Status) → status ≡ read_as taking → CountedOf first first_now (taking ≡ Status.Feed) → IsTold taking p q → MayEndChaining status → BothShow status first p → MayEndWithoutFailure status
  without_failure_as status taking is c h may shows =
      subst MayEndWithoutFailure (sym is) (without_failure taking c h (subst MayEndChaining is may) (subst (λ (s : Status). BothShow s first p) is shows))

pub completes : (status : Status) (first first_now : Disks) (p q : Place) → ChainTold (CountedOf first first_now) p q status → MayEndChaining status → BothShow status first p → (one : List Row) → HaveJournal one first → (two : List Row) → IsPairImageOf two p.one.content p.two.content
    → (AnyRose first first_now p.failed q.failed → ⊥) → MayEndWithoutFailure status
completes status first first_now p q told may shows one image two other none =
    without_failure_as first first_now p q none
    (λ at. ⊎_elim (λ bad. no_journal at first.one.content first.two.content one image bad) (λ bad. no_journal at p.one.content p.two.content two other bad.1))
    status told.taking told.is told.first told.second may shows
