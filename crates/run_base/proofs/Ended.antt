-- How commands end: by a fault of the store, or at a line that was written.
use Rattle.std.proofs.Common.{◌≡◌, ◌≢◌, ◌∙◌, ◌⊎◌, inl, inr, ℕ, List, [], Bool, Result, Ok, Err, IsTrue, refl, sym, ap, subst, arith}
use Rattle.std.specs.Prelude.{⊤}
use Rattle.std.proofs.lemmas.List.{append-nil}
use Rattle.at_authority.specs.Panels.{IsSpent}
use Rattle.at_cid.specs.Counts.{Rose, Counted, CountedPair}
use Rattle.relay_disk.specs.Disk.{View}
use Rattle.relay_io.specs.Streams.{AddsFront}
use Rattle.relay_row.specs.declared.row.Row.{Row}
use Rattle.relay_step.specs.Causes.{SpendsNone}
use Rattle.relay_store.specs.Journals.{IsBadPairJournalAt, IsPairImageOf}
use Rattle.relay_store.specs.Opening.{BothOnlyRead, IsOfReading, Opened}
use Rattle.relay_store.specs.declared.fault.StoreFault.{StoreFault}
use Rattle.run_base.specs.Deeds.{by_end}
use Rattle.run_base.specs.Ends.{Caused, Ended, IsFinished, IsQuiet, IsUnwritten, Shows, Writes}
use Rattle.run_base.specs.Place.{Faults, Part, Place, Tells, stays_of, the_clock, the_judges, the_output, the_repos}
use Rattle.run_base.specs.declared.outside.Outside.{Outside}
use Rattle.run_base.specs.Statuses.{status_of_fault}
use Rattle.run_base.specs.declared.status.Status.{Status}

-- ---- a line that was written, or wasn't

-- what holds at each status that may come holds at the one that came: where what is to be written isn't
pub by_unwritten : (P : Status → Type 0) → P Status.WriteFault → P Status.Memory → (status : Status)
    → IsUnwritten status → P status
by_unwritten P write memory status (inl is) = subst P (sym is) write
by_unwritten P write memory status (inr is) = subst P (sym is) memory

-- or all was written
pub by_finished : (P : Status → Type 0) → P Status.Done → P Status.WriteFault → P Status.Memory → (status : Status)
    → IsFinished status → P status
by_finished P done write memory status (inl is) = subst P (sym is) done
by_finished P done write memory status (inr un) = by_unwritten P write memory status un

-- ---- a fault as what a call answered

abbrev pub failed_by : {A : Type 0} → StoreFault → Result A StoreFault
failed_by fault = Err fault

abbrev fault_or : {A : Type 0} → StoreFault → Result A StoreFault → StoreFault
fault_or other (Ok x) = other
fault_or other (Err fault) = fault

-- both answers are a fault, so it is one
pub same_fault : {A : Type 0} (fault other : StoreFault) → failed_by {A = A} fault ≡ failed_by other → fault ≡ other
same_fault fault other is = ap (fault_or fault) is

pub same_failed : {A : Type 0} (fault other : StoreFault) → fault ≡ other → failed_by {A = A} fault ≡ failed_by other
same_failed fault other is = ap failed_by is

pub counted_fault : {A : Type 0} (fault other : StoreFault) (old new : ℕ) → Counted (failed_by {A = A} fault ≡ failed_by other) old new → Counted (fault ≡ other) old new
counted_fault fault other old new c = record { rose = λ is. c.rose (same_failed fault other is); steady = λ not. c.steady (λ is. not (same_fault fault other is)); kept = c.kept }

pub counted_pair_fault : {A : Type 0} (fault other : StoreFault) (one two one_now two_now : ℕ) → CountedPair (failed_by {A = A} fault ≡ failed_by other) one two one_now two_now → CountedPair (fault ≡ other) one two one_now two_now
counted_pair_fault fault other one two one_now two_now c = record {
  rose = λ is. c.rose (same_failed fault other is);
  steady = λ not. c.steady (λ is. not (same_fault fault other is));
  one_kept = c.one_kept;
  two_kept = c.two_kept;
}

abbrev pub done_by : {A : Type 0} → A → Result A StoreFault
done_by answer = Ok answer

abbrev is_done : {A : Type 0} → Result A StoreFault → Type 0
is_done (Ok x) = ⊤
is_done (Err fault) = ⊥

-- an answer isn't a fault
pub ok_not : {A : Type 0} (answer : A) (fault : StoreFault) → done_by answer ≡ failed_by fault → ⊥
ok_not answer fault is = subst is_done is tt

-- a count of a part that isn't asked
pub uncounted : (failed : Type 0) (count : ℕ) → (failed → ⊥) → Counted failed count count
uncounted failed count not = record { rose = λ is. absurd (not is); steady = λ _. refl; kept = omega arith }

-- behind a call that left the counts of two disks as they were
pub counted_behind : (failed : Type 0) (one two mid_one mid_two one_now two_now : ℕ) → (mid_one ≡ one) × (mid_two ≡ two) → CountedPair failed mid_one mid_two one_now two_now → CountedPair failed one two one_now two_now
counted_behind failed one two mid_one mid_two one_now two_now same c =
    subst (λ (n : ℕ). CountedPair failed n two one_now two_now) same.0 (subst (λ (n : ℕ). CountedPair failed mid_one n one_now two_now) same.1 c)

-- ---- a fault as a status

-- at which status a fault stands, another one doesn't
pub other_status : (fault other : StoreFault) (status : Status) → status ≡ status_of_fault fault → status ≢ status_of_fault other → fault ≢ other
other_status fault other status is not same = not (is ∙ ap status_of_fault same)

pub authority_fault : (fault : StoreFault) (status : Status) → status ≡ status_of_fault fault → status ≡ Status.Authority → fault ≡ StoreFault.Authority
authority_fault fault status is at = by fault (sym is ∙ at)
  where
    by : (f : StoreFault) → status_of_fault f ≡ Status.Authority → f ≡ StoreFault.Authority
    by StoreFault.Disk is = let no : ⊥ = cc in absurd no
    by (StoreFault.BadLog p) is = let no : ⊥ = cc in absurd no
    by (StoreFault.Full e) is = let no : ⊥ = cc in absurd no
    by StoreFault.SeqEnd is = let no : ⊥ = cc in absurd no
    by StoreFault.Authority is = refl
    by StoreFault.Repos is = let no : ⊥ = cc in absurd no
    by StoreFault.Memory is = let no : ⊥ = cc in absurd no
    by StoreFault.Clock is = let no : ⊥ = cc in absurd no

pub fault_not_done : (fault : StoreFault) → Status.Done ≡ status_of_fault fault → ⊥
fault_not_done StoreFault.Disk is = cc
fault_not_done (StoreFault.BadLog p) is = cc
fault_not_done (StoreFault.Full e) is = cc
fault_not_done StoreFault.SeqEnd is = cc
fault_not_done StoreFault.Authority is = cc
fault_not_done StoreFault.Repos is = cc
fault_not_done StoreFault.Memory is = cc
fault_not_done StoreFault.Clock is = cc

pub fault_not_write : (fault : StoreFault) → Status.WriteFault ≡ status_of_fault fault → ⊥
fault_not_write StoreFault.Disk is = cc
fault_not_write (StoreFault.BadLog p) is = cc
fault_not_write (StoreFault.Full e) is = cc
fault_not_write StoreFault.SeqEnd is = cc
fault_not_write StoreFault.Authority is = cc
fault_not_write StoreFault.Repos is = cc
fault_not_write StoreFault.Memory is = cc
fault_not_write StoreFault.Clock is = cc

pub fault_not_refused : (code : ℕ) (fault : StoreFault) → Status.Refused code ≡ status_of_fault fault → ⊥
fault_not_refused code StoreFault.Disk is = cc
fault_not_refused code (StoreFault.BadLog p) is = cc
fault_not_refused code (StoreFault.Full e) is = cc
fault_not_refused code StoreFault.SeqEnd is = cc
fault_not_refused code StoreFault.Authority is = cc
fault_not_refused code StoreFault.Repos is = cc
fault_not_refused code StoreFault.Memory is = cc
fault_not_refused code StoreFault.Clock is = cc

pub fault_caused : (fault : StoreFault) (old new : Place) → (fault ≡ StoreFault.Disk → Rose old.failed.one new.failed.one ⊎ Rose old.failed.two new.failed.two)
    → (fault ≡ StoreFault.Authority → (method : List ℕ) × IsSpent (new.around.panel method)) → (fault ≡ StoreFault.Repos → Rose old.failed.repos new.failed.repos) → (fault ≡ StoreFault.Clock → Rose old.failed.clock new.failed.clock)
    → Caused (status_of_fault fault) old new
fault_caused StoreFault.Disk old new disk spent repos clock = disk refl
fault_caused (StoreFault.BadLog p) old new disk spent repos clock = tt
fault_caused (StoreFault.Full e) old new disk spent repos clock = tt
fault_caused StoreFault.SeqEnd old new disk spent repos clock = tt
fault_caused StoreFault.Authority old new disk spent repos clock = spent refl
fault_caused StoreFault.Repos old new disk spent repos clock = repos refl
fault_caused StoreFault.Memory old new disk spent repos clock = tt
fault_caused StoreFault.Clock old new disk spent repos clock = clock refl

-- nothing is kept after a fault, and nothing is written
pub by_fault : {A : Type 0} (fault : StoreFault) (done undone : A) → by_end (status_of_fault fault) done undone ≡ undone
by_fault StoreFault.Disk done undone = refl
by_fault (StoreFault.BadLog p) done undone = refl
by_fault (StoreFault.Full e) done undone = refl
by_fault StoreFault.SeqEnd done undone = refl
by_fault StoreFault.Authority done undone = refl
by_fault StoreFault.Repos done undone = refl
by_fault StoreFault.Memory done undone = refl
by_fault StoreFault.Clock done undone = refl

pub none_added : (old text : List ℕ) → AddsFront old old text
none_added old text = (0, omega arith, sym (append-nil old))

fault_wrote : (fault : StoreFault) (text old : List ℕ) → Writes (status_of_fault fault) [] text old old
fault_wrote StoreFault.Disk text old = sym (append-nil old)
fault_wrote (StoreFault.BadLog p) text old = sym (append-nil old)
fault_wrote (StoreFault.Full e) text old = sym (append-nil old)
fault_wrote StoreFault.SeqEnd text old = sym (append-nil old)
fault_wrote StoreFault.Authority text old = sym (append-nil old)
fault_wrote StoreFault.Repos text old = sym (append-nil old)
fault_wrote StoreFault.Memory text old = none_added old text
fault_wrote StoreFault.Clock text old = sym (append-nil old)

pub fault_writes : (fault : StoreFault) (status : Status) (text old : List ℕ) → status ≡ status_of_fault fault → Writes status [] text old old
fault_writes fault status text old is = subst (λ (s : Status). Writes s [] text old old) (sym is) (fault_wrote fault text old)

-- ---- what the disks show

pub reading_shows : (fault : StoreFault) (status : Status) (one two : List ℕ) → status ≡ status_of_fault fault → IsOfReading fault → ((p : ℕ) → fault ≡ StoreFault.BadLog p → IsBadPairJournalAt p one two) → Shows status one two
reading_shows fault status one two is of bad = subst (λ (s : Status). Shows s one two) (sym is) (shows fault of bad)
  where
    shows : (f : StoreFault) → IsOfReading f → ((p : ℕ) → f ≡ StoreFault.BadLog p → IsBadPairJournalAt p one two) → Shows (status_of_fault f) one two
    shows StoreFault.Disk of bad = tt
    shows (StoreFault.BadLog p) of bad = bad p refl
    shows (StoreFault.Full e) of bad = absurd of
    shows StoreFault.SeqEnd of bad = absurd of
    shows StoreFault.Authority of bad = absurd of
    shows StoreFault.Repos of bad = absurd of
    shows StoreFault.Memory of bad = tt
    shows StoreFault.Clock of bad = absurd of

-- an image of a journal, unless the log is bad
pub image_shows : (fault : StoreFault) (status : Status) (one two : List ℕ) (J : List Row) → status ≡ status_of_fault fault → IsPairImageOf J one two → ((p : ℕ) → fault ≡ StoreFault.BadLog p → ⊥) → Shows status one two
image_shows fault status one two J is image good = subst (λ (s : Status). Shows s one two) (sym is) (shows fault good)
  where
    shows : (f : StoreFault) → ((p : ℕ) → f ≡ StoreFault.BadLog p → ⊥) → Shows (status_of_fault f) one two
    shows StoreFault.Disk good = tt
    shows (StoreFault.BadLog p) good = absurd (good p refl)
    shows (StoreFault.Full e) good = (J, image)
    shows StoreFault.SeqEnd good = (J, image)
    shows StoreFault.Authority good = (J, image)
    shows StoreFault.Repos good = (J, image)
    shows StoreFault.Memory good = tt
    shows StoreFault.Clock good = (J, image)

-- where it comes to no store, and no disk failed, both were only read
pub opening_read : (tells : Bool) (one two one_now two_now : View) (fault : StoreFault) (status : Status) → Opened tells one two one_now two_now (Err fault) → IsTrue tells → status ≡ status_of_fault fault → status ≢ Status.Disk → BothOnlyRead one two one_now two_now
opening_read tells one two one_now two_now fault status opened told is other = opened.read fault refl (other_status fault StoreFault.Disk status is other) told

-- ---- together

-- no part but the disks, the repositories and the clock has another count
pub record SameBeside (old new : Faults) : Type 0 where
  pub output : new.output ≡ old.output
  pub input : new.input ≡ old.input
  pub feed : new.feed ≡ old.feed
  pub door : new.door ≡ old.door
  pub wire : new.wire ≡ old.wire

-- by a fault of the store
pub fault_ended : (t : Tells) (old new : Place) (fault : StoreFault) (status : Status) → status ≡ status_of_fault fault → (IsTrue t.disk → Shows status old.one.content old.two.content) → new.written ≡ old.written
    → CountedPair (fault ≡ StoreFault.Disk) old.failed.one old.failed.two new.failed.one new.failed.two
    → (fault ≡ StoreFault.Authority → (method : List ℕ) × IsSpent (new.around.panel method)) → (fault ≢ StoreFault.Authority → SpendsNone old.around.panel new.around.panel)
    → Counted (fault ≡ StoreFault.Repos) old.failed.repos new.failed.repos → Counted (fault ≡ StoreFault.Clock) old.failed.clock new.failed.clock → SameBeside old.failed new.failed
    → Ended t old new status
fault_ended t old new fault status is shows written disks spent unspent repos clock same = record {
  shows = shows;
  quiet = λ _ f by. written;
  caused = subst (λ (s : Status). Caused s old new) (sym is) (fault_caused fault old new disks.rose spent repos.rose clock.rose);
  told = record {
    disks = λ not. disks.steady (other_status fault StoreFault.Disk status is not);
    unspent = λ not. unspent (other_status fault StoreFault.Authority status is not);
    repos = λ not. repos.steady (other_status fault StoreFault.Repos status is not);
    clock = λ not. clock.steady (other_status fault StoreFault.Clock status is not);
    output = λ _. same.output;
    input = λ _. same.input;
    feed = λ _. same.feed;
    door = λ _. same.door;
    wire = λ _. same.wire;
  };
}

-- ---- at a line

-- it is written, or a call of the output failed, or it is one of a refusal, or memory ran out
abbrev pub IsAtLine : Status → Type 0
IsAtLine status = (status ≡ Status.Done) ⊎ ((status ≡ Status.WriteFault) ⊎ (((code : ℕ) × (status ≡ Status.Refused code)) ⊎ (status ≡ Status.Memory)))

line_shows : (status : Status) (one two : List ℕ) → IsAtLine status → (J : List Row) × IsPairImageOf J one two → Shows status one two
line_shows status one two (inl is) image = subst (λ (s : Status). Shows s one two) (sym is) image
line_shows status one two (inr (inl is)) image = subst (λ (s : Status). Shows s one two) (sym is) image
line_shows status one two (inr (inr (inl (code, is)))) image = subst (λ (s : Status). Shows s one two) (sym is) image
line_shows status one two (inr (inr (inr is))) image = subst (λ (s : Status). Shows s one two) (sym is) tt

line_quiet : (status : Status) (old new : List ℕ) → IsAtLine status → (status ≡ Status.Memory → new ≡ old) → IsQuiet status old new
line_quiet status old new (inl is) same fault by = absurd (fault_not_done fault (sym is ∙ by))
line_quiet status old new (inr (inl is)) same fault by = absurd (fault_not_write fault (sym is ∙ by))
line_quiet status old new (inr (inr (inl (code, is)))) same fault by = absurd (fault_not_refused code fault (sym is ∙ by))
line_quiet status old new (inr (inr (inr is))) same fault by = same is

line_caused : (status : Status) (old new : Place) → IsAtLine status → (status ≡ Status.WriteFault → Rose old.failed.output new.failed.output) → Caused status old new
line_caused status old new (inl is) rose = subst (λ (s : Status). Caused s old new) (sym is) tt
line_caused status old new (inr (inl is)) rose = subst (λ (s : Status). Caused s old new) (sym is) (rose is)
line_caused status old new (inr (inr (inl (code, is)))) rose = subst (λ (s : Status). Caused s old new) (sym is) tt
line_caused status old new (inr (inr (inr is))) rose = subst (λ (s : Status). Caused s old new) (sym is) tt

pub line_not_authority : (status : Status) → IsAtLine status → status ≢ Status.Authority
line_not_authority status (inl is) at = fault_not_done StoreFault.Authority (sym is ∙ at)
line_not_authority status (inr (inl is)) at = fault_not_write StoreFault.Authority (sym is ∙ at)
line_not_authority status (inr (inr (inl (code, is)))) at = fault_not_refused code StoreFault.Authority (sym is ∙ at)
line_not_authority status (inr (inr (inr is))) at = memory_not (sym is ∙ at)
  where
    memory_not : Status.Memory ≡ Status.Authority → ⊥
    memory_not is = cc

pub memory_not_write : Status.Memory ≡ Status.WriteFault → ⊥
memory_not_write is = cc

-- no part but the output has another count, and no method lost the last of its authorities
pub record SameButOutput (old new : Place) : Type 0 where
  pub disks : (new.failed.one ≡ old.failed.one) × (new.failed.two ≡ old.failed.two)
  pub unspent : SpendsNone old.around.panel new.around.panel
  pub repos : new.failed.repos ≡ old.failed.repos
  pub clock : new.failed.clock ≡ old.failed.clock
  pub input : new.failed.input ≡ old.failed.input
  pub feed : new.failed.feed ≡ old.failed.feed
  pub door : new.failed.door ≡ old.failed.door
  pub wire : new.failed.wire ≡ old.failed.wire

pub line_ended : (t : Tells) (old new : Place) (status : Status) → IsAtLine status → (IsTrue t.disk → (J : List Row) × IsPairImageOf J old.one.content old.two.content)
    → (IsTrue t.output → status ≡ Status.Memory → new.written ≡ old.written) → Counted (status ≡ Status.WriteFault) old.failed.output new.failed.output → SameButOutput old new → Ended t old new status
line_ended t old new status at image quiet output same = record {
  shows = λ told. line_shows status old.one.content old.two.content at (image told);
  quiet = λ told. line_quiet status old.written new.written at (quiet told);
  caused = line_caused status old new at output.rose;
  told = record {
    disks = λ _. same.disks;
    unspent = λ _. same.unspent;
    repos = λ _. same.repos;
    clock = λ _. same.clock;
    output = output.steady;
    input = λ _. same.input;
    feed = λ _. same.feed;
    door = λ _. same.door;
    wire = λ _. same.wire;
  };
}

-- each part beside the disks is what it was
pub all_stay : {D P R C O : Type 0} (old new : Outside D P R C O) → new.asked.judges.now ≡ old.asked.judges.now → new.asked.repos.now ≡ old.asked.repos.now → new.asked.clock.now ≡ old.asked.clock.now → new.out.now ≡ old.out.now
    → (part : Part) → stays_of part old new
all_stay old new judges repos clock out the_judges = judges
all_stay old new judges repos clock out the_repos = repos
all_stay old new judges repos clock out the_clock = clock
all_stay old new judges repos clock out the_output = out
