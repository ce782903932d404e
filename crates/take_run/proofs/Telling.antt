-- Which failures are told, whatever the journal.
use Rattle.std.proofs.Common.{◌≡◌, ◌≢◌, ◌⊎◌, inl, inr, ℕ, List, Option, Some, None, Result, Ok, Err, refl, sym, ap, ◌∙◌, subst}
use Rattle.at_authority.specs.Panels.{IsSpent}
use Rattle.at_cid.specs.Counts.{Rose, Counted, CountedPair, CountedBut}
use Rattle.relay_step.specs.Around.{Around}
use Rattle.relay_step.specs.Causes.{SpendsNone}
use Rattle.relay_store.specs.Opening.{IsOfReading}
use Rattle.relay_store.specs.declared.fault.StoreFault.{StoreFault}
use Rattle.tape.specs.declared.fault.TapeFault.{TapeFault}
use Rattle.run_base.specs.Ends.{Caused, IsFinished, IsUnwritten, ToldBut}
use Rattle.run_base.specs.Place.{Faults, Place, with_feed, with_input}
use Rattle.run_base.specs.Statuses.{status_of_fault}
use Rattle.run_base.specs.declared.status.Status.{Status}
use Rattle.run_base.proofs.Ended.{SameBeside, by_finished, by_unwritten, fault_caused, other_status}
use Rattle.take_run.specs.Ends.{FaultsTold, IsOfSource, IsStop, IsUnread, MayHideAsked, MayHideInput, MayEndFollowing, MayEndIngesting, status_of_tape}
use Rattle.take_run.specs.Going.{NothingFailed}
use Rattle.take_run.specs.Groups.{ReadFailed}
use Rattle.take_run.specs.declared.group.Rest.{Rest}

-- ---- which statuses

pub fault_stops : (fault : StoreFault) (status : Status) → status ≡ status_of_fault fault → IsStop status
fault_stops fault status is = subst IsStop (sym is) (at fault)
  where
    at : (f : StoreFault) → IsStop (status_of_fault f)
    at StoreFault.Disk = tt
    at (StoreFault.BadLog p) = tt
    at (StoreFault.Full e) = tt
    at StoreFault.SeqEnd = tt
    at StoreFault.Authority = tt
    at StoreFault.Repos = tt
    at StoreFault.Memory = tt
    at StoreFault.Clock = tt

pub unwritten_stops : (status : Status) → IsUnwritten status → IsStop status
unwritten_stops status is = by_unwritten (λ s. IsStop s) tt tt status is

pub stop_not_source : (status : Status) → IsStop status → IsOfSource status → ⊥
stop_not_source Status.Done stop source = stop
stop_not_source (Status.BadTape p) stop source = stop
stop_not_source Status.ReadFault stop source = stop
stop_not_source Status.TooLong stop source = stop
stop_not_source Status.Feed stop source = stop
stop_not_source status stop source = source

-- of a tape
pub stop_ingests : (status : Status) → IsStop status → MayEndIngesting status
stop_ingests Status.Done stop = tt
stop_ingests (Status.BadTape p) stop = tt
stop_ingests Status.ReadFault stop = tt
stop_ingests Status.TooLong stop = tt
stop_ingests status stop = stop

pub finish_ingests : (status : Status) → IsFinished status → MayEndIngesting status
finish_ingests status is = by_finished (λ s. MayEndIngesting s) tt tt tt status is

pub tape_ingests : (fault : TapeFault) → MayEndIngesting (status_of_tape fault)
tape_ingests (TapeFault.Torn p) = tt
tape_ingests (TapeFault.BadName p) = tt
tape_ingests (TapeFault.TooLong p) = tt
tape_ingests TapeFault.Failed = tt
tape_ingests TapeFault.Budget = tt
tape_ingests TapeFault.Memory = tt

-- and of a host
pub stop_follows : (status : Status) → IsStop status → MayEndFollowing status
stop_follows Status.Done stop = tt
stop_follows Status.Feed stop = tt
stop_follows status stop = stop

pub finish_follows : (status : Status) → IsFinished status → MayEndFollowing status
finish_follows status is = by_finished (λ s. MayEndFollowing s) tt tt tt status is

pub unread_follows : (status : Status) → IsUnread status → MayEndFollowing status
unread_follows Status.Feed is = tt
unread_follows Status.Memory is = tt
unread_follows status is = absurd is

-- ---- counts that are as they were

pub same_faults : (f g : Faults) → (g.one ≡ f.one) × (g.two ≡ f.two) → g.repos ≡ f.repos → g.clock ≡ f.clock → SameBeside f g → g ≡ f
same_faults f g disks repos clock same = λ i. record {
  one = disks.0 i;
  two = disks.1 i;
  repos = repos i;
  clock = clock i;
  output = same.output i;
  input = same.input i;
  feed = same.feed i;
  door = same.door i;
  wire = same.wire i;
}

pub nothing_here : (p : Place) → NothingFailed p p
nothing_here p = record { counts = refl; unspent = λ _ spent. spent }

pub nothing_on : (p q r : Place) → NothingFailed p q → NothingFailed q r → NothingFailed p r
nothing_on p q r one two = record { counts = two.counts ∙ one.counts; unspent = λ name spent. one.unspent name (two.unspent name spent) }

-- with a count of the input or of the feed that stands
pub input_still : (p q : Place) (i j : ℕ) → NothingFailed p q → j ≡ i → NothingFailed (with_input i p) (with_input j q)
input_still p q i j none same = record { counts = (λ k. record (none.counts k) { input = same k }); unspent = none.unspent }

pub feed_still : (p q : Place) (i j : ℕ) → NothingFailed p q → j ≡ i → NothingFailed (with_feed i p) (with_feed j q)
feed_still p q i j none same = record { counts = (λ k. record (none.counts k) { feed = same k }); unspent = none.unspent }

-- ---- one part after another

pub told_on : (X Y : Type 0) (status : Status) (p q r : Place) → NothingFailed p q → ToldBut X Y status q r → ToldBut X Y status p r
told_on X Y status p q r none told = record {
  disks = λ not. ((told.disks not).0 ∙ ap (λ (f : Faults). f.one) none.counts, (told.disks not).1 ∙ ap (λ (f : Faults). f.two) none.counts);
  unspent = λ shown not name spent. none.unspent name (told.unspent shown not name spent);
  repos = λ shown not. told.repos shown not ∙ ap (λ (f : Faults). f.repos) none.counts;
  clock = λ shown not. told.clock shown not ∙ ap (λ (f : Faults). f.clock) none.counts;
  output = λ not. told.output not ∙ ap (λ (f : Faults). f.output) none.counts;
  input = λ shown not. told.input shown not ∙ ap (λ (f : Faults). f.input) none.counts;
  feed = λ not. told.feed not ∙ ap (λ (f : Faults). f.feed) none.counts;
  door = told.door ∙ ap (λ (f : Faults). f.door) none.counts;
  wire = told.wire ∙ ap (λ (f : Faults). f.wire) none.counts;
}

pub told_weaker : (X X' Y Y' : Type 0) (status : Status) (p q : Place) → (X → X') → (Y → Y') → ToldBut X Y status p q → ToldBut X' Y' status p q
told_weaker X X' Y Y' status p q asked input told = record {
  disks = told.disks;
  unspent = λ shown. told.unspent (λ x. shown (asked x));
  repos = λ shown. told.repos (λ x. shown (asked x));
  clock = λ shown. told.clock (λ x. shown (asked x));
  output = told.output;
  input = λ shown. told.input (λ y. shown (input y));
  feed = told.feed;
  door = told.door;
  wire = told.wire;
}

pub nothing_told : (X Y : Type 0) (status : Status) (p q : Place) → NothingFailed p q → ToldBut X Y status p q
nothing_told X Y status p q none = told_on X Y status p q q none (record {
  disks = λ _. (refl, refl);
  unspent = λ _ _ _ spent. spent;
  repos = λ _ _. refl;
  clock = λ _ _. refl;
  output = λ _. refl;
  input = λ _ _. refl;
  feed = λ _. refl;
  door = refl;
  wire = refl;
})

caused_on : (status : Status) (p q r : Place) → q.failed ≡ p.failed → Caused status q r → Caused status p r
caused_on Status.Disk p q r same (inl rose) = inl (subst (λ (f : Faults). Rose f.one r.failed.one) same rose)
caused_on Status.Disk p q r same (inr rose) = inr (subst (λ (f : Faults). Rose f.two r.failed.two) same rose)
caused_on Status.Repos p q r same rose = subst (λ (f : Faults). Rose f.repos r.failed.repos) same rose
caused_on Status.Clock p q r same rose = subst (λ (f : Faults). Rose f.clock r.failed.clock) same rose
caused_on Status.WriteFault p q r same rose = subst (λ (f : Faults). Rose f.output r.failed.output) same rose
caused_on Status.ReadFault p q r same rose = subst (λ (f : Faults). Rose f.input r.failed.input) same rose
caused_on Status.Feed p q r same rose = subst (λ (f : Faults). Rose f.feed r.failed.feed) same rose
caused_on Status.Door p q r same rose = subst (λ (f : Faults). Rose f.door r.failed.door) same rose
caused_on Status.Wire p q r same rose = subst (λ (f : Faults). Rose f.wire r.failed.wire) same rose
caused_on Status.Authority p q r same spent = spent
caused_on status p q r same caused = tt

pub faults_on : (Y : Type 0) (status : Status) (p q r : Place) → NothingFailed p q → FaultsTold Y q r status → FaultsTold Y p r status
faults_on Y status p q r none ends = record { caused = caused_on status p q r none.counts ends.caused; told = told_on _ Y status p q r none ends.told }

-- a stop is none of the input's, and none of the feed's
stop_caused : (status : Status) (p q : Place) (i j : ℕ) → IsStop status → Caused status p q → Caused status (with_input i p) (with_input j q)
stop_caused Status.WriteFault p q i j stop caused = caused
stop_caused Status.Disk p q i j stop caused = caused
stop_caused (Status.BadLog at) p q i j stop caused = caused
stop_caused Status.Authority p q i j stop caused = caused
stop_caused Status.Repos p q i j stop caused = caused
stop_caused (Status.Full e) p q i j stop caused = caused
stop_caused Status.SeqEnd p q i j stop caused = caused
stop_caused Status.Memory p q i j stop caused = caused
stop_caused Status.Clock p q i j stop caused = caused
stop_caused status p q i j stop caused = absurd stop

stop_caused_feed : (status : Status) (p q : Place) (i j : ℕ) → IsStop status → Caused status p q → Caused status (with_feed i p) (with_feed j q)
stop_caused_feed Status.WriteFault p q i j stop caused = caused
stop_caused_feed Status.Disk p q i j stop caused = caused
stop_caused_feed (Status.BadLog at) p q i j stop caused = caused
stop_caused_feed Status.Authority p q i j stop caused = caused
stop_caused_feed Status.Repos p q i j stop caused = caused
stop_caused_feed (Status.Full e) p q i j stop caused = caused
stop_caused_feed Status.SeqEnd p q i j stop caused = caused
stop_caused_feed Status.Memory p q i j stop caused = caused
stop_caused_feed Status.Clock p q i j stop caused = caused
stop_caused_feed status p q i j stop caused = absurd stop

stop_hides : (status : Status) → IsStop status → MayHideInput status
stop_hides Status.Done stop = absurd stop
stop_hides (Status.BadTape p) stop = absurd stop
stop_hides Status.TooLong stop = absurd stop
stop_hides status stop = tt

pub stop_with_input : (status : Status) (p q : Place) (i j : ℕ) → IsStop status → FaultsTold ⊥ p q status → FaultsTold (MayHideInput status) (with_input i p) (with_input j q) status
stop_with_input status p q i j stop ends = record {
  caused = stop_caused status p q i j stop ends.caused;
  told = record {
    disks = ends.told.disks;
    unspent = ends.told.unspent;
    repos = ends.told.repos;
    clock = ends.told.clock;
    output = ends.told.output;
    input = λ shown. absurd (shown (stop_hides status stop));
    feed = ends.told.feed;
    door = ends.told.door;
    wire = ends.told.wire;
  };
}

pub stop_with_feed : (status : Status) (p q : Place) (i j : ℕ) → IsStop status → j ≡ i → FaultsTold ⊥ p q status → FaultsTold ⊥ (with_feed i p) (with_feed j q) status
stop_with_feed status p q i j stop same ends = record {
  caused = stop_caused_feed status p q i j stop ends.caused;
  told = record {
    disks = ends.told.disks;
    unspent = ends.told.unspent;
    repos = ends.told.repos;
    clock = ends.told.clock;
    output = ends.told.output;
    input = ends.told.input;
    feed = λ _. same;
    door = ends.told.door;
    wire = ends.told.wire;
  };
}

-- ---- at a line

-- no part but the output has another count, and no method lost the last of its authorities
pub record OnlyWrote (p q : Place) : Type 0 where
  disks : (q.failed.one ≡ p.failed.one) × (q.failed.two ≡ p.failed.two)
  unspent : SpendsNone p.around.panel q.around.panel
  repos : q.failed.repos ≡ p.failed.repos
  clock : q.failed.clock ≡ p.failed.clock
  input : q.failed.input ≡ p.failed.input
  feed : q.failed.feed ≡ p.failed.feed
  door : q.failed.door ≡ p.failed.door
  wire : q.failed.wire ≡ p.failed.wire

finish_caused : (status : Status) (p q : Place) → IsFinished status → (status ≡ Status.WriteFault → Rose p.failed.output q.failed.output) → Caused status p q
finish_caused status p q is =
    by_finished (λ s. (s ≡ Status.WriteFault → Rose p.failed.output q.failed.output) → Caused s p q) (λ rose. tt) (λ rose. rose refl) (λ rose. tt) status is

pub wrote_told : (X Y : Type 0) (status : Status) (p q : Place) → OnlyWrote p q → Counted (status ≡ Status.WriteFault) p.failed.output q.failed.output → ToldBut X Y status p q
wrote_told X Y status p q only output = record {
  disks = λ _. only.disks;
  unspent = λ _ _. only.unspent;
  repos = λ _ _. only.repos;
  clock = λ _ _. only.clock;
  output = output.steady;
  input = λ _ _. only.input;
  feed = λ _. only.feed;
  door = only.door;
  wire = only.wire;
}

pub finish_faults : (Y : Type 0) (status : Status) (p q : Place) → IsFinished status → OnlyWrote p q → Counted (status ≡ Status.WriteFault) p.failed.output q.failed.output → FaultsTold Y p q status
finish_faults Y status p q is only output = record { caused = finish_caused status p q is output.rose; told = wrote_told _ Y status p q only output }

pub unwritten_finishes : (status : Status) → IsUnwritten status → IsFinished status
unwritten_finishes status is = inr is

unwritten_hides : (status : Status) → IsUnwritten status → MayHideAsked status
unwritten_hides status is = by_unwritten (λ s. MayHideAsked s) tt tt status is

abbrev pub failed_as : {A : Type 0} → Status → Result A Status
failed_as status = Err status

abbrev status_or : {A : Type 0} → Status → Result A Status → Status
status_or other (Err status) = status
status_or other done = other

-- the count of an answer that is a status
pub counted_status : {A : Type 0} (status other : Status) (old new : ℕ) → Counted (failed_as {A = A} status ≡ failed_as other) old new → Counted (status ≡ other) old new
counted_status status other old new c = record { rose = λ is. c.rose (ap failed_as is); steady = λ not. c.steady (λ is. not (ap (status_or status) is)); kept = c.kept }

-- an answer isn't a fault
pub done_not : {A : Type 0} {x : A} (status : Status) → Ok x ≡ failed_as status → ⊥
done_not status is = cc

pub done_not_fault : {A : Type 0} {x : A} (fault : StoreFault) → ◌≡◌ {A = Result A StoreFault} (Ok x) (Err fault) → ⊥
done_not_fault fault is = cc

pub only_output : (p q : Place) → q.around ≡ p.around → (q.failed.one ≡ p.failed.one) → (q.failed.two ≡ p.failed.two) → q.failed.repos ≡ p.failed.repos → q.failed.clock ≡ p.failed.clock → q.failed.input ≡ p.failed.input → q.failed.feed ≡ p.failed.feed → q.failed.door ≡ p.failed.door
    → q.failed.wire ≡ p.failed.wire → OnlyWrote p q
only_output p q around one two repos clock input feed door wire = record {
  disks = (one, two);
  unspent = λ name spent. subst (λ (a : Around). IsSpent (a.panel name)) around spent;
  repos = repos;
  clock = clock;
  input = input;
  feed = feed;
  door = door;
  wire = wire;
}

-- nothing failed where lines alone were written
pub wrote_nothing : (p q : Place) → OnlyWrote p q → q.failed.output ≡ p.failed.output → NothingFailed p q
wrote_nothing p q only output = record {
  counts = same_faults p.failed q.failed only.disks only.repos only.clock (record { output = output; input = only.input; feed = only.feed; door = only.door; wire = only.wire });
  unspent = only.unspent;
}

-- ---- what was asked of the store

module _ (fault : Option StoreFault) (p q : Place) (disks : CountedPair (fault ≡ Some StoreFault.Disk) p.failed.one p.failed.two q.failed.one q.failed.two)
    (repos : CountedBut (fault ≡ Some StoreFault.Disk) (fault ≡ Some StoreFault.Repos) p.failed.repos q.failed.repos) (clock : CountedBut (fault ≡ Some StoreFault.Disk) (fault ≡ Some StoreFault.Clock) p.failed.clock q.failed.clock)
    (unspent : fault ≢ Some StoreFault.Disk → fault ≢ Some StoreFault.Authority → SpendsNone p.around.panel q.around.panel) (input : q.failed.input ≡ p.failed.input) (feed : q.failed.feed ≡ p.failed.feed) (door : q.failed.door ≡ p.failed.door) (wire : q.failed.wire ≡ p.failed.wire) where
  none_not : (f : StoreFault) → fault ≡ None → fault ≢ Some f
  none_not f none is = let no : ⊥ = cc in no

  -- no fault came
  pub batch_nothing : fault ≡ None → q.failed.output ≡ p.failed.output → NothingFailed p q
  batch_nothing none output = record {
    counts = same_faults p.failed q.failed (disks.steady (none_not StoreFault.Disk none)) (repos.steady (none_not StoreFault.Disk none) (none_not StoreFault.Repos none)) (clock.steady (none_not StoreFault.Disk none) (none_not StoreFault.Clock none))
        (record { output = output; input = input; feed = feed; door = door; wire = wire });
    unspent = unspent (none_not StoreFault.Disk none) (none_not StoreFault.Authority none);
  }

  -- one came
  module _ (f : StoreFault) (is : fault ≡ Some f) (status : Status) (at : status ≡ status_of_fault f) where
    same_as : (g : StoreFault) → fault ≡ Some g → f ≡ g
    same_as g other = cc

    not_as : (g : StoreFault) → status ≢ status_of_fault g → fault ≢ Some g
    not_as g not other = other_status f g status at not (same_as g other)

    pub batch_told : (Y : Type 0) → q.failed.output ≡ p.failed.output → ToldBut (f ≡ StoreFault.Disk) Y status p q
    batch_told Y output = record {
      disks = λ not. disks.steady (not_as StoreFault.Disk not);
      unspent = λ shown not. unspent (λ disk. shown (same_as StoreFault.Disk disk)) (not_as StoreFault.Authority not);
      repos = λ shown not. repos.steady (λ disk. shown (same_as StoreFault.Disk disk)) (not_as StoreFault.Repos not);
      clock = λ shown not. clock.steady (λ disk. shown (same_as StoreFault.Disk disk)) (not_as StoreFault.Clock not);
      output = λ _. output;
      input = λ _ _. input;
      feed = λ _. feed;
      door = door;
      wire = wire;
    }

    pub batch_faults : (fault ≡ Some StoreFault.Authority → (method : List ℕ) × IsSpent (q.around.panel method)) → q.failed.output ≡ p.failed.output → FaultsTold ⊥ p q status
    batch_faults spent output = record {
      caused = subst (λ (s : Status). Caused s p q) (sym at)
          (fault_caused f p q (λ e. disks.rose (is ∙ ap Some e)) (λ e. spent (is ∙ ap Some e)) (λ e. repos.rose (is ∙ ap Some e)) (λ e. clock.rose (is ∙ ap Some e)));
      told = told_weaker _ _ _ _ status p q (λ disk. subst MayHideAsked (sym (at ∙ ap status_of_fault disk)) tt) (λ no. no) (batch_told ⊥ output);
    }

  -- its lines couldn't be written
  pub unwritten_told : (X Y : Type 0) (status : Status) → X → fault ≢ Some StoreFault.Disk → Counted (status ≡ Status.WriteFault) p.failed.output q.failed.output → ToldBut X Y status p q
  unwritten_told X Y status hidden not output = record {
    disks = λ _. disks.steady not;
    unspent = λ shown. absurd (shown hidden);
    repos = λ shown. absurd (shown hidden);
    clock = λ shown. absurd (shown hidden);
    output = output.steady;
    input = λ _ _. input;
    feed = λ _. feed;
    door = door;
    wire = wire;
  }

  pub unwritten_faults : (status : Status) → IsUnwritten status → fault ≢ Some StoreFault.Disk → Counted (status ≡ Status.WriteFault) p.failed.output q.failed.output → FaultsTold ⊥ p q status
  unwritten_faults status one not output = record {
    caused = finish_caused status p q (unwritten_finishes status one) output.rose;
    told = unwritten_told (MayHideAsked status) ⊥ status (unwritten_hides status one) not output;
  }

-- ---- what is read

pub read_on : (rest : Rest) (before now : ℕ) → ReadFailed rest before now → (rest ≡ Rest.More) ⊎ (rest ≡ Rest.Nothing) → now ≡ before
read_on rest before now read (inl is) = subst (λ (r : Rest). ReadFailed r before now) is read
read_on rest before now read (inr is) = subst (λ (r : Rest). ReadFailed r before now) is read

-- a fault of the tape
module _ (before now : ℕ) where
  tape_told : (fault : TapeFault) → ReadFailed (Rest.Fault fault) before now → status_of_tape fault ≢ Status.ReadFault → now ≡ before
  tape_told (TapeFault.Torn place) read not = read
  tape_told (TapeFault.BadName place) read not = read
  tape_told (TapeFault.TooLong place) read not = read
  tape_told TapeFault.Failed read not = absurd (not refl)
  tape_told TapeFault.Budget read not = read
  tape_told TapeFault.Memory read not = read

  tape_caused : (p : Place) (fault : TapeFault) → ReadFailed (Rest.Fault fault) before now → Caused (status_of_tape fault) (with_input before p) (with_input now p)
  tape_caused p (TapeFault.Torn place) read = tt
  tape_caused p (TapeFault.BadName place) read = tt
  tape_caused p (TapeFault.TooLong place) read = tt
  tape_caused p TapeFault.Failed read = read
  tape_caused p TapeFault.Budget read = tt
  tape_caused p TapeFault.Memory read = tt

  module _ (rest : Rest) (fault : TapeFault) (is : rest ≡ Rest.Fault fault) (read : ReadFailed rest before now) (status : Status) (at : status ≡ status_of_tape fault) where
    read_is : ReadFailed (Rest.Fault fault) before now
    read_is = subst (λ (r : Rest). ReadFailed r before now) is read

    pub tape_steady : status ≢ Status.ReadFault → now ≡ before
    tape_steady not = tape_told fault read_is (λ other. not (at ∙ other))

    pub tape_faults : (p : Place) (Y : Type 0) → FaultsTold Y (with_input before p) (with_input now p) status
    tape_faults p Y = record {
      caused = subst (λ (s : Status). Caused s (with_input before p) (with_input now p)) (sym at) (tape_caused p fault read_is);
      told = record {
        disks = λ _. (refl, refl);
        unspent = λ _ _ _ spent. spent;
        repos = λ _ _. refl;
        clock = λ _ _. refl;
        output = λ _. refl;
        input = λ _ not. tape_steady not;
        feed = λ _. refl;
        door = refl;
        wire = refl;
      };
    }

-- a fault of the stream
feed_caused : (status : Status) (p : Place) (before now : ℕ) → IsUnread status → Counted (status ≡ Status.Feed) before now → Caused status (with_feed before p) (with_feed now p)
feed_caused Status.Feed p before now is count = count.rose refl
feed_caused Status.Memory p before now is count = tt
feed_caused status p before now is count = absurd is

pub unread_faults : (status : Status) (p : Place) (before now : ℕ) → IsUnread status → Counted (status ≡ Status.Feed) before now → FaultsTold ⊥ (with_feed before p) (with_feed now p) status
unread_faults status p before now is count = record {
  caused = feed_caused status p before now is count;
  told = record {
    disks = λ _. (refl, refl);
    unspent = λ _ _ _ spent. spent;
    repos = λ _ _. refl;
    clock = λ _ _. refl;
    output = λ _. refl;
    input = λ _ _. refl;
    feed = count.steady;
    door = refl;
    wire = refl;
  };
}

-- ---- opening

-- it came to nothing
pub opening_faults : (Y : Type 0) (fault : StoreFault) (status : Status) (p q : Place) → status ≡ status_of_fault fault → IsOfReading fault → CountedPair (fault ≡ StoreFault.Disk) p.failed.one p.failed.two q.failed.one q.failed.two → q.around ≡ p.around → q.failed.repos ≡ p.failed.repos → q.failed.clock ≡ p.failed.clock
    → SameBeside p.failed q.failed → FaultsTold Y p q status
opening_faults Y fault status p q is of disks around repos clock same = record {
  caused = subst (λ (s : Status). Caused s p q) (sym is)
      (fault_caused fault p q disks.rose (λ at. absurd (subst IsOfReading at of)) (λ at. absurd (subst IsOfReading at of)) (λ at. absurd (subst IsOfReading at of)));
  told = record {
    disks = λ not. disks.steady (other_status fault StoreFault.Disk status is not);
    unspent = λ _ _ name spent. subst (λ (a : Around). IsSpent (a.panel name)) around spent;
    repos = λ _ _. repos;
    clock = λ _ _. clock;
    output = λ _. same.output;
    input = λ _ _. same.input;
    feed = λ _. same.feed;
    door = same.door;
    wire = same.wire;
  };
}

-- or to a store
pub opened_nothing : (p q : Place) → (q.failed.one ≡ p.failed.one) × (q.failed.two ≡ p.failed.two) → q.around ≡ p.around → q.failed.repos ≡ p.failed.repos → q.failed.clock ≡ p.failed.clock → SameBeside p.failed q.failed → NothingFailed p q
opened_nothing p q disks around repos clock same = record {
  counts = same_faults p.failed q.failed disks repos clock same;
  unspent = λ name spent. subst (λ (a : Around). IsSpent (a.panel name)) around spent;
}
