-- Which failures are told, and which statuses come, by what reading kept.
use Rattle.std.proofs.Common.{◌≡◌, ◌≢◌, ◌≤◌, ◌∙◌, inl, inr, ℕ, Bool, Option, Some, None, IsTrue, refl, sym, ap, subst, arith}
use Rattle.at_cid.specs.Counts.{Rose, Counted, CountedPair}
use Rattle.event_window.specs.declared.fault.EventsFault.{EventsFault}
use Rattle.relay_store.specs.Opening.{IsOfReading}
use Rattle.relay_store.specs.declared.fault.StoreFault.{StoreFault}
use Rattle.run_base.specs.Ends.{Caused, ToldBut}
use Rattle.run_base.specs.Place.{Place, with_feed}
use Rattle.run_base.specs.Statuses.{status_of_fault}
use Rattle.run_base.specs.declared.status.Status.{Status}
use Rattle.run_base.proofs.Ended.{counted_behind}
use Rattle.take_run.specs.Ends.{FaultsTold, MayEndFollowing}
use Rattle.take_run.specs.Going.{NothingFailed}
use Rattle.take_run.proofs.Telling.{faults_on, nothing_here, nothing_on, nothing_told, same_faults}
use Rattle.chain_law.specs.Trust.{Trusts}
use Rattle.relay_chain.specs.Disks.{CountedOf, Disks}
use Rattle.relay_chain.specs.Ends.{ChainTold, IsTold, MayEndChaining, ended_by, read_as}
use Rattle.relay_chain.specs.Streams.{ReadsOn, kept_faults}

not_rose : {A : Type 0} → Rose 0 0 → A
not_rose rose = let none : ⊥ = omega (arith, rose) in absurd none

-- ---- the second relay's parts, without the feed

module _ (p q : Place) (no_feed : q.failed.feed ≡ p.failed.feed) where
  told_without : (X : Type 0) (status : Status) (i j : ℕ) → ToldBut X ⊥ status (with_feed i p) (with_feed j q) → ToldBut X ⊥ status p q
  told_without X status i j told = record {
    disks = told.disks;
    unspent = told.unspent;
    repos = told.repos;
    clock = told.clock;
    output = told.output;
    input = told.input;
    feed = λ _. no_feed;
    door = told.door;
    wire = told.wire;
  }

  caused_without : (status : Status) (i j : ℕ) → status ≢ Status.Feed → Caused status (with_feed i p) (with_feed j q) → Caused status p q
  caused_without Status.Feed i j not caused = absurd (not refl)
  caused_without status i j not caused = caused

  -- a call of the feed failed, and so no other one
  nothing_without : (i j : ℕ) → ToldBut ⊥ ⊥ Status.Feed (with_feed i p) (with_feed j q) → NothingFailed p q
  nothing_without i j told = record {
    counts = same_faults p.failed q.failed (told.disks (λ is. let no : ⊥ = cc in no)) (told.repos (λ no. no) (λ is. let no : ⊥ = cc in no)) (told.clock (λ no. no) (λ is. let no : ⊥ = cc in no))
        (record { output = told.output (λ is. let no : ⊥ = cc in no); input = told.input (λ no. no) (λ is. let no : ⊥ = cc in no); feed = no_feed; door = told.door; wire = told.wire });
    unspent = told.unspent (λ no. no) (λ is. let no : ⊥ = cc in no);
  }

  told_as : (status : Status) (i j : ℕ) → FaultsTold ⊥ (with_feed i p) (with_feed j q) status → IsTold status p q
  told_as Status.Feed i j h = nothing_without i j h.told
  told_as status i j h = record { caused = caused_without status i j (λ is. absurd cc) h.caused; told = told_without _ status i j h.told }

-- ---- by the fault that was kept

module _ (tells : Bool) (p q : Place) (no_feed : q.failed.feed ≡ p.failed.feed) (n m : ℕ) where
  abbrev Told : Status → Type 0
  Told status = ChainTold (λ failed. Counted failed n m) p q status

  told_unkept : (taking : Status) → FaultsTold ⊥ (with_feed 0 p) (with_feed 0 q) taking → m ≡ n → Told taking
  told_unkept Status.Feed h same = not_rose h.caused
  told_unkept taking h same = record { taking = taking; is = refl; first = record { rose = λ is. absurd cc; steady = λ _. same; kept = omega (arith, same) }; second = told_as p q no_feed taking 0 0 h }

  told_failed : (taking : Status) → FaultsTold ⊥ (with_feed 0 p) (with_feed 1 q) taking → Rose n m → n ≤ m → Told Status.Disk
  told_failed Status.Feed h rose kept = record { taking = Status.Feed; is = refl; first = record { rose = λ _. rose; steady = λ not. absurd (not refl); kept = kept }; second = told_as p q no_feed Status.Feed 0 1 h }
  told_failed taking h rose kept = let one : 1 ≡ 0 = h.told.feed (λ is. absurd cc) in let no : ⊥ = omega (arith, one) in absurd no

  told_damaged : (place : ℕ) (taking : Status) → FaultsTold ⊥ (with_feed 0 p) (with_feed 1 q) taking → m ≡ n → Told (Status.BadLog place)
  told_damaged place Status.Feed h same = record {
    taking = Status.BadLog place;
    is = refl;
    first = record { rose = λ is. absurd cc; steady = λ _. same; kept = omega (arith, same) };
    second = record { caused = tt; told = nothing_told _ ⊥ (Status.BadLog place) p q (nothing_without p q no_feed 0 1 h.told) };
  }
  told_damaged place taking h same = let one : 1 ≡ 0 = h.told.feed (λ is. absurd cc) in let no : ⊥ = omega (arith, one) in absurd no

  told_by : (fault : Option EventsFault) (taking : Status) → FaultsTold ⊥ (with_feed 0 p) (with_feed (kept_faults fault) q) taking → ReadsOn tells None n fault m → Told (ended_by fault taking)
  told_by None taking h reads = told_unkept taking h reads
  told_by (Some EventsFault.Disk) taking h reads = told_failed taking h reads.0 reads.1
  told_by (Some EventsFault.Memory) taking h reads = absurd reads
  told_by (Some (EventsFault.BadLog place)) taking h reads = told_damaged place taking h reads.1

  -- and so it ended
  pub reading_told : (fault : Option EventsFault) (taking status : Status) → status ≡ ended_by fault taking → FaultsTold ⊥ (with_feed 0 p) (with_feed (kept_faults fault) q) taking → ReadsOn tells None n fault m → Told status
  reading_told fault taking status is h reads = subst Told (sym is) (told_by fault taking h reads)

  -- ---- of events that are told

  reads_failed : (taking : Status) → FaultsTold ⊥ (with_feed 0 p) (with_feed 1 q) taking → Status.Disk ≡ read_as taking
  reads_failed Status.Feed h = refl
  reads_failed taking h = let one : 1 ≡ 0 = h.told.feed (λ is. absurd cc) in let no : ⊥ = omega (arith, one) in absurd no

  reads_unkept : (taking : Status) → FaultsTold ⊥ (with_feed 0 p) (with_feed 0 q) taking → taking ≡ read_as taking
  reads_unkept Status.Feed h = not_rose h.caused
  reads_unkept taking h = refl

  reads_by : IsTrue tells → (fault : Option EventsFault) (taking : Status) → FaultsTold ⊥ (with_feed 0 p) (with_feed (kept_faults fault) q) taking → ReadsOn tells None n fault m → ended_by fault taking ≡ read_as taking
  reads_by told None taking h reads = reads_unkept taking h
  reads_by told (Some EventsFault.Disk) taking h reads = reads_failed taking h
  reads_by told (Some EventsFault.Memory) taking h reads = absurd reads
  reads_by told (Some (EventsFault.BadLog place)) taking h reads = absurd (reads.0 told)

  pub reading_as : IsTrue tells → (fault : Option EventsFault) (taking status : Status) → status ≡ ended_by fault taking → FaultsTold ⊥ (with_feed 0 p) (with_feed (kept_faults fault) q) taking → ReadsOn tells None n fault m → status ≡ read_as taking
  reading_as told fault taking status is h reads = is ∙ reads_by told fault taking h reads

-- ---- which statuses

module _ (p q : Place) (trusts : Trusts q.around.panel) where
  may_unkept : (taking : Status) → MayEndFollowing taking → Caused taking (with_feed 0 p) (with_feed 0 q) → MayEndChaining taking
  may_unkept Status.Feed may caused = not_rose caused
  may_unkept Status.Authority may caused = let none : ⊥ = omega (arith, caused.1.had, ap (λ a. a.fallen) (trusts caused.0)) in absurd none
  may_unkept Status.Done may caused = tt
  may_unkept Status.WriteFault may caused = tt
  may_unkept Status.Disk may caused = tt
  may_unkept Status.Repos may caused = tt
  may_unkept (Status.BadLog place) may caused = tt
  may_unkept (Status.Full e) may caused = tt
  may_unkept Status.SeqEnd may caused = tt
  may_unkept Status.Memory may caused = tt
  may_unkept Status.Clock may caused = tt
  may_unkept taking may caused = absurd may

  may_by : (fault : Option EventsFault) (taking : Status) → MayEndFollowing taking → Caused taking (with_feed 0 p) (with_feed (kept_faults fault) q) → MayEndChaining (ended_by fault taking)
  may_by None taking may caused = may_unkept taking may caused
  may_by (Some EventsFault.Disk) taking may caused = tt
  may_by (Some EventsFault.Memory) taking may caused = tt
  may_by (Some (EventsFault.BadLog place)) taking may caused = tt

  pub reading_may : (fault : Option EventsFault) (taking status : Status) → status ≡ ended_by fault taking → MayEndFollowing taking → Caused taking (with_feed 0 p) (with_feed (kept_faults fault) q) → MayEndChaining status
  reading_may fault taking status is may caused = subst MayEndChaining (sym is) (may_by fault taking may caused)

-- those of opening
pub opening_may : (fault : StoreFault) (status : Status) → status ≡ status_of_fault fault → IsOfReading fault → MayEndChaining status
opening_may fault status is of = subst MayEndChaining (sym is) (at fault of)
  where
    at : (f : StoreFault) → IsOfReading f → MayEndChaining (status_of_fault f)
    at StoreFault.Disk of = tt
    at (StoreFault.BadLog p) of = tt
    at (StoreFault.Full e) of = absurd of
    at StoreFault.SeqEnd of = absurd of
    at StoreFault.Authority of = absurd of
    at StoreFault.Repos of = absurd of
    at StoreFault.Memory of = tt
    at StoreFault.Clock of = absurd of

-- ---- of one of two disks

pub told_with : (X Y : Type 0 → Type 0) (p q : Place) (status : Status) → ((failed : Type 0) → X failed → Y failed) → ChainTold X p q status → ChainTold Y p q status
told_with X Y p q status to h = record { taking = h.taking; is = h.is; first = to (h.taking ≡ Status.Feed) h.first; second = h.second }

pub counted_one : (one two one_now : ℕ) (failed : Type 0) → Counted failed one one_now → CountedPair failed one two one_now two
counted_one one two one_now failed c = record { rose = λ is. inl (c.rose is); steady = λ not. (c.steady not, refl); one_kept = c.kept; two_kept = omega arith }

pub counted_two : (one two two_now : ℕ) (failed : Type 0) → Counted failed two two_now → CountedPair failed one two one two_now
counted_two one two two_now failed c = record { rose = λ is. inr (c.rose is); steady = λ not. (refl, c.steady not); one_kept = omega arith; two_kept = c.kept }

-- ---- opening

not_feed : (fault : StoreFault) → status_of_fault fault ≡ read_as (status_of_fault fault)
not_feed StoreFault.Disk = refl
not_feed (StoreFault.BadLog p) = refl
not_feed (StoreFault.Full e) = refl
not_feed StoreFault.SeqEnd = refl
not_feed StoreFault.Authority = refl
not_feed StoreFault.Repos = refl
not_feed StoreFault.Memory = refl
not_feed StoreFault.Clock = refl

-- the first pair wasn't opened, and the second not touched
pub first_told : (fault : StoreFault) (status : Status) (p : Place) (old new : Disks) → status ≡ status_of_fault fault → IsOfReading fault → CountedOf old new (fault ≡ StoreFault.Disk) → ChainTold (CountedOf old new) p p status
first_told fault status p old new is of counted = subst (ChainTold (CountedOf old new) p p) (sym is) (by fault of counted)
  where
    not_failed : (f : StoreFault) (taking : Status) → (f ≡ StoreFault.Disk → ⊥) → (taking ≡ Status.Feed → ⊥) → CountedOf old new (f ≡ StoreFault.Disk) → CountedOf old new (taking ≡ Status.Feed)
    not_failed f taking other none c = record { rose = λ at. absurd (none at); steady = λ _. c.steady other; one_kept = c.one_kept; two_kept = c.two_kept }

    by : (f : StoreFault) → IsOfReading f → CountedOf old new (f ≡ StoreFault.Disk) → ChainTold (CountedOf old new) p p (status_of_fault f)
    by StoreFault.Disk of c = record { taking = Status.Feed; is = refl; first = record { rose = λ _. c.rose refl; steady = λ not. absurd (not refl); one_kept = c.one_kept; two_kept = c.two_kept }; second = nothing_here p }
    by (StoreFault.BadLog at) of c = record {
      taking = Status.BadLog at;
      is = refl;
      first = not_failed (StoreFault.BadLog at) (Status.BadLog at) (λ same. let no : ⊥ = cc in no) (λ same. let no : ⊥ = cc in no) c;
      second = record { caused = tt; told = nothing_told _ ⊥ (Status.BadLog at) p p (nothing_here p) };
    }
    by StoreFault.Memory of c = record {
      taking = Status.Memory;
      is = refl;
      first = not_failed StoreFault.Memory Status.Memory (λ same. let no : ⊥ = cc in no) (λ same. let no : ⊥ = cc in no) c;
      second = record { caused = tt; told = nothing_told _ ⊥ Status.Memory p p (nothing_here p) };
    }
    by (StoreFault.Full e) of c = absurd of
    by StoreFault.SeqEnd of c = absurd of
    by StoreFault.Authority of c = absurd of
    by StoreFault.Repos of c = absurd of
    by StoreFault.Clock of c = absurd of

-- no disk of it failed
pub unfailed : (old new : Disks) (failed : Type 0) → CountedOf old new failed → (failed → ⊥) → CountedOf old new ⊥
unfailed old new failed c not = record { rose = λ no. absurd no; steady = λ _. c.steady not; one_kept = c.one_kept; two_kept = c.two_kept }

-- the second wasn't
second_is : (fault : StoreFault) (p q : Place) → FaultsTold ⊥ p q (status_of_fault fault) → IsTold (status_of_fault fault) p q
second_is StoreFault.Disk p q h = h
second_is (StoreFault.BadLog at) p q h = h
second_is (StoreFault.Full e) p q h = h
second_is StoreFault.SeqEnd p q h = h
second_is StoreFault.Authority p q h = h
second_is StoreFault.Repos p q h = h
second_is StoreFault.Memory p q h = h
second_is StoreFault.Clock p q h = h

second_not_feed : (fault : StoreFault) → status_of_fault fault ≡ Status.Feed → ⊥
second_not_feed StoreFault.Disk is = cc
second_not_feed (StoreFault.BadLog at) is = cc
second_not_feed (StoreFault.Full e) is = cc
second_not_feed StoreFault.SeqEnd is = cc
second_not_feed StoreFault.Authority is = cc
second_not_feed StoreFault.Repos is = cc
second_not_feed StoreFault.Memory is = cc
second_not_feed StoreFault.Clock is = cc

pub second_told : (fault : StoreFault) (status : Status) (p q : Place) (old new : Disks) → status ≡ status_of_fault fault → CountedOf old new ⊥ → FaultsTold ⊥ p q status → ChainTold (CountedOf old new) p q status
second_told fault status p q old new is counted h = record {
  taking = status_of_fault fault;
  is = is ∙ not_feed fault;
  first = record { rose = λ at. absurd (second_not_feed fault at); steady = λ _. counted.steady (λ no. no); one_kept = counted.one_kept; two_kept = counted.two_kept };
  second = second_is fault p q (subst (FaultsTold ⊥ p q) is h);
}

-- both were, without a failure
told_on : (taking : Status) (p q r : Place) → NothingFailed p q → IsTold taking q r → IsTold taking p r
told_on Status.Feed p q r none h = nothing_on p q r none h
told_on taking p q r none h = faults_on ⊥ taking p q r none h

pub both_told : (status : Status) (p q r : Place) (old mid new : Disks) → CountedOf old mid ⊥ → NothingFailed p q → ChainTold (CountedOf mid new) q r status → ChainTold (CountedOf old new) p r status
both_told status p q r old mid new counted none h = record {
  taking = h.taking;
  is = h.is;
  first = counted_behind (h.taking ≡ Status.Feed) old.one.faults old.two.faults mid.one.faults mid.two.faults new.one.faults new.two.faults (counted.steady (λ no. no)) h.first;
  second = told_on h.taking p q r none h.second;
}
