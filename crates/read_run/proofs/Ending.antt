-- How commands end that only read a journal.
use Rattle.std.proofs.Common.{◌≡◌, ◌≢◌, ◌∙◌, ◌⊎◌, inl, inr, ◌++◌, ℕ, List, [], IsTrue, refl, sym, ap, subst, arith, append_assoc}
use Rattle.at_cid.specs.Counts.{Rose, Counted, CountedPair}
use Rattle.relay_io.specs.Streams.{AddsFront}
use Rattle.relay_row.specs.declared.row.Row.{Row}
use Rattle.relay_step.specs.Causes.{SpendsNone}
use Rattle.relay_store.specs.Journals.{IsBadPairJournalAt, IsPairImageOf}
use Rattle.relay_store.specs.Opening.{IsOfReading}
use Rattle.relay_store.specs.declared.fault.StoreFault.{StoreFault}
use Rattle.backfill.proofs.Framing.{front_of_first, front_of_second, front_whole}
use Rattle.run_base.specs.Ends.{Caused, IsFinished, IsUnwritten, Shows, Writes}
use Rattle.run_base.specs.Place.{Place, Tells}
use Rattle.run_base.specs.Statuses.{status_of_fault}
use Rattle.run_base.specs.declared.status.Status.{Status}
use Rattle.run_base.proofs.Ended.{by_finished, by_unwritten, fault_caused, other_status, reading_shows}
use Rattle.read_run.specs.Ends.{IsUnasked, IsUnmet, IsUnread, MayEnd, ReadEnded}

-- ---- by the status

-- what holds at each status that may come holds at the one that came
pub by_status : (door wire : Type 0) (P : Status → Type 0) → P Status.Done → P Status.WriteFault → P Status.Disk
    → ((place : ℕ) → P (Status.BadLog place)) → P Status.Memory
    → (door → P Status.Door) → (wire → P Status.Wire) → (status : Status) → MayEnd door wire status → P status
by_status door wire P done write disk bad memory next request Status.Done may = done
by_status door wire P done write disk bad memory next request (Status.BadTape place) may = absurd may
by_status door wire P done write disk bad memory next request Status.Usage may = absurd may
by_status door wire P done write disk bad memory next request Status.ReadFault may = absurd may
by_status door wire P done write disk bad memory next request Status.WriteFault may = write
by_status door wire P done write disk bad memory next request Status.Disk may = disk
by_status door wire P done write disk bad memory next request Status.Authority may = absurd may
by_status door wire P done write disk bad memory next request Status.Repos may = absurd may
by_status door wire P done write disk bad memory next request Status.Feed may = absurd may
by_status door wire P done write disk bad memory next request Status.Door may = next may
by_status door wire P done write disk bad memory next request (Status.BadLog place) may = bad place
by_status door wire P done write disk bad memory next request (Status.Full end) may = absurd may
by_status door wire P done write disk bad memory next request Status.SeqEnd may = absurd may
by_status door wire P done write disk bad memory next request Status.TooLong may = absurd may
by_status door wire P done write disk bad memory next request Status.Memory may = memory
by_status door wire P done write disk bad memory next request (Status.Refused code) may = absurd may
by_status door wire P done write disk bad memory next request Status.Clock may = absurd may
by_status door wire P done write disk bad memory next request (Status.BadStream place) may = absurd may
by_status door wire P done write disk bad memory next request Status.Wire may = request may

-- an event that isn't read
pub by_unread : (P : Status → Type 0) → P Status.Memory → P Status.Disk → ((place : ℕ) → P (Status.BadLog place))
    → (status : Status) → IsUnread status → P status
by_unread P memory disk bad status (inl is) = subst P (sym is) memory
by_unread P memory disk bad status (inr (inl is)) = subst P (sym is) disk
by_unread P memory disk bad status (inr (inr (place, is))) = subst P (sym is) (bad place)

-- or a guest who isn't met
pub by_unmet : (P : Status → Type 0) → P Status.Door → P Status.Memory → P Status.Disk
    → ((place : ℕ) → P (Status.BadLog place)) → (status : Status) → IsUnmet status → P status
by_unmet P door memory disk bad status (inl is) = subst P (sym is) door
by_unmet P door memory disk bad status (inr un) = by_unread P memory disk bad status un

-- or a request that doesn't come
pub by_unasked : (P : Status → Type 0) → P Status.Wire → P Status.Memory → (status : Status) → IsUnasked status
    → P status
by_unasked P wire memory status (inl is) = subst P (sym is) wire
by_unasked P wire memory status (inr is) = subst P (sym is) memory

-- ---- disks that weren't opened

pub reading_may : (door wire : Type 0) (fault : StoreFault) (status : Status) → status ≡ status_of_fault fault
    → IsOfReading fault → MayEnd door wire status
reading_may door wire fault status is of = subst (MayEnd door wire) (sym is) (may fault of)
  where
    may : (f : StoreFault) → IsOfReading f → MayEnd door wire (status_of_fault f)
    may StoreFault.Disk of = tt
    may (StoreFault.BadLog p) of = tt
    may (StoreFault.Full e) of = absurd of
    may StoreFault.SeqEnd of = absurd of
    may StoreFault.Authority of = absurd of
    may StoreFault.Repos of = absurd of
    may StoreFault.Memory of = tt
    may StoreFault.Clock of = absurd of

-- who isn't asked, and the output, are what they were
pub record SameBut (old new : Place) : Type 0 where
  pub unspent : SpendsNone old.around.panel new.around.panel
  pub repos : new.failed.repos ≡ old.failed.repos
  pub clock : new.failed.clock ≡ old.failed.clock
  pub input : new.failed.input ≡ old.failed.input
  pub feed : new.failed.feed ≡ old.failed.feed

pub ended_unopened : (hidden : Type 0) (t : Tells) (old new : Place) (fault : StoreFault) (status : Status)
    → status ≡ status_of_fault fault → IsOfReading fault
    → (IsTrue t.disk → (p : ℕ) → fault ≡ StoreFault.BadLog p → IsBadPairJournalAt p old.one.content old.two.content)
    → CountedPair (fault ≡ StoreFault.Disk) old.failed.one old.failed.two new.failed.one new.failed.two
    → new.failed.output ≡ old.failed.output → new.failed.door ≡ old.failed.door → new.failed.wire ≡ old.failed.wire
    → SameBut old new → ReadEnded hidden t old new status
ended_unopened hidden t old new fault status is of bad disks output door wire same = record {
  shows = λ told. reading_shows fault status old.one.content old.two.content is of (bad told);
  caused = subst (λ (s : Status). Caused s old new) (sym is)
      (fault_caused fault old new disks.rose (λ at. absurd (subst IsOfReading at of))
      (λ at. absurd (subst IsOfReading at of)) (λ at. absurd (subst IsOfReading at of)));
  told = λ _. record {
    disks = λ not. disks.steady (other_status fault StoreFault.Disk status is not);
    unspent = λ _. same.unspent;
    repos = λ _. same.repos;
    clock = λ _. same.clock;
    output = λ _. output;
    input = λ _. same.input;
    feed = λ _. same.feed;
    door = λ _. door;
    wire = λ _. wire;
  };
  disks = λ not. disks.steady (other_status fault StoreFault.Disk status is not);
}

-- ---- disks that were

image_shows : (door wire : Type 0) (status : Status) (one two : List ℕ) (J : List Row) → MayEnd door wire status
    → IsPairImageOf J one two → ((p : ℕ) → status ≡ Status.BadLog p → ⊥) → Shows status one two
image_shows door wire status one two J may image =
    by_status door wire (λ s. ((p : ℕ) → s ≡ Status.BadLog p → ⊥) → Shows s one two)
    (λ good. (J, image)) (λ good. (J, image)) (λ good. tt) (λ p good. absurd (good p refl)) (λ good. tt)
    (λ next good. (J, image)) (λ next good. (J, image)) status may

status_caused : (door wire : Type 0) (status : Status) (old new : Place) → MayEnd door wire status
    → (status ≡ Status.WriteFault → Rose old.failed.output new.failed.output)
    → (status ≡ Status.Disk → Rose old.failed.one new.failed.one ⊎ Rose old.failed.two new.failed.two)
    → (status ≡ Status.Door → Rose old.failed.door new.failed.door)
    → (status ≡ Status.Wire → Rose old.failed.wire new.failed.wire) → Caused status old new
status_caused door wire status old new may =
    by_status door wire (λ s. (s ≡ Status.WriteFault → Rose old.failed.output new.failed.output)
    → (s ≡ Status.Disk → Rose old.failed.one new.failed.one ⊎ Rose old.failed.two new.failed.two)
    → (s ≡ Status.Door → Rose old.failed.door new.failed.door)
    → (s ≡ Status.Wire → Rose old.failed.wire new.failed.wire) → Caused s old new)
    (λ write disk next request. tt) (λ write disk next request. write refl) (λ write disk next request. disk refl)
    (λ p write disk next request. tt) (λ write disk next request. tt)
    (λ may write disk next request. next refl) (λ may write disk next request. request refl) status may

-- what failed of the parts that are handed in
pub record Failed (hidden : Type 0) (old new : Place) (status : Status) : Type 0 where
  pub disks : CountedPair (status ≡ Status.Disk) old.failed.one old.failed.two new.failed.one new.failed.two
  pub unwritten : status ≡ Status.WriteFault → Rose old.failed.output new.failed.output
  pub output : (hidden → ⊥) → status ≢ Status.WriteFault → new.failed.output ≡ old.failed.output
  pub door : Counted (status ≡ Status.Door) old.failed.door new.failed.door
  pub wire : Counted (status ≡ Status.Wire) old.failed.wire new.failed.wire

pub ended_opened : (door wire hidden : Type 0) (t : Tells) (old new : Place) (status : Status) → MayEnd door wire status
    → (IsTrue t.disk → (J : List Row) × IsPairImageOf J old.one.content old.two.content)
    → ((p : ℕ) → status ≡ Status.BadLog p → IsTrue t.disk → ⊥)
    → Failed hidden old new status → SameBut old new → ReadEnded hidden t old new status
ended_opened door wire hidden t old new status may image good failed same = record {
  shows = λ told. let kept = image told in image_shows door wire status _ _ kept.0 may kept.1 (λ p is. good p is told);
  caused = status_caused door wire status old new may failed.unwritten failed.disks.rose failed.door.rose
      failed.wire.rose;
  told = λ seen. record {
    disks = failed.disks.steady;
    unspent = λ _. same.unspent;
    repos = λ _. same.repos;
    clock = λ _. same.clock;
    output = failed.output seen;
    input = λ _. same.input;
    feed = λ _. same.feed;
    door = failed.door.steady;
    wire = failed.wire.steady;
  };
  disks = failed.disks.steady;
}

-- disks that weren't read again
pub pair_counted : (failed : Type 0) (one two one_now two_now : ℕ) → (failed → ⊥) → (one_now ≡ one) × (two_now ≡ two)
    → CountedPair failed one two one_now two_now
pair_counted failed one two one_now two_now not same =
    record {
      rose = λ is. absurd (not is);
      steady = λ _. same;
      one_kept = omega (arith, same.0);
      two_kept = omega (arith, same.1);
    }

-- a part that isn't handed in
pub uncounted_door : (wire : Type 0) (status : Status) (n : ℕ) → MayEnd ⊥ wire status
    → Counted (status ≡ Status.Door) n n
uncounted_door wire status n may = record {
  rose = λ is. absurd (subst (MayEnd ⊥ wire) is may);
  steady = λ _. refl;
  kept = omega arith;
}

pub uncounted_wire : (door : Type 0) (status : Status) (n : ℕ) → MayEnd door ⊥ status
    → Counted (status ≡ Status.Wire) n n
uncounted_wire door status n may = record {
  rose = λ is. absurd (subst (MayEnd door ⊥) is may);
  steady = λ _. refl;
  kept = omega arith;
}

-- ---- what was written

-- all of a text is a front of it and more
pub whole_front : (old text more : List ℕ) → AddsFront old (old ++ text) (text ++ more)
whole_front old text more = front_of_first old (old ++ text) text more (front_whole old (old ++ text) text refl)

-- a line after others was written, or wasn't
pub last_written : (status : Status) (lines last old mid new : List ℕ) → IsFinished status → mid ≡ old ++ lines
    → Writes status [] last mid new → Writes status lines last old new
last_written status lines last old mid new is before =
    by_finished (λ s. Writes s [] last mid new → Writes s lines last old new)
    (λ wrote. wrote ∙ ap (λ (l : List ℕ). l ++ last) before ∙ append_assoc old lines last)
    (λ front. front_of_second old mid new lines last before front)
    (λ front. front_of_second old mid new lines last before front) status is

-- lines and one more that wasn't written
pub line_unwritten : (status : Status) (lines text last old mid new : List ℕ) → IsUnwritten status → mid ≡ old ++ lines
    → Writes status [] text mid new → Writes status (lines ++ text) last old new
line_unwritten status lines text last old mid new un before =
    by_unwritten (λ s. Writes s [] text mid new → Writes s (lines ++ text) last old new)
    (λ front. front_of_first old new (lines ++ text) last (front_of_second old mid new lines text before front))
    (λ front. front_of_first old new (lines ++ text) last (front_of_second old mid new lines text before front)) status
    un

-- lines after which no guest was met, or no event was read
pub lines_unmet : (status : Status) (lines last old new : List ℕ) → IsUnmet status → new ≡ old ++ lines
    → Writes status lines last old new
lines_unmet status lines last old new un is = by_unmet (λ s. Writes s lines last old new) is (front_of_first old new
    lines last (front_whole old new lines is)) is (λ p. is) status un

-- or no request came
pub lines_unasked : (status : Status) (lines last old new : List ℕ) → IsUnasked status → new ≡ old ++ lines
    → Writes status lines last old new
lines_unasked status lines last old new un is = by_unasked (λ s. Writes s lines last old new) is (front_of_first old new
    lines last (front_whole old new lines is)) status un
