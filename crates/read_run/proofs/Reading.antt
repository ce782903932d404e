-- Two disks that were opened and then only read.
use Rattle.std.proofs.Common.{◌≡◌, ◌≢◌, ⊎_elim, inl, inr, ℕ, List, [], ◌≤◌, Bool, Ok, Err, IsTrue, refl, sym, subst, arith}
use Rattle.std.specs.Prelude.{⊤}
use Rattle.relay_disk.specs.Disk.{View, IsDisk, Goes, Same}
use Rattle.relay_disk.proofs.Moments.{pair_still_one, pair_still_two, still_again, still_here, unchanged}
use Rattle.gate_log.specs.Pick.{other_side, view_of_side}
use Rattle.gate_log.specs.declared.picking.Side.{Side}
use Rattle.gate_log.specs.declared.picking.Side.TheVariants.{One, Two}
use Rattle.relay_row.specs.declared.row.Row.{Row}
use Rattle.relay_store.specs.Journals.{IsBadPairJournalAt, IsPairImageOf}
use Rattle.relay_store.specs.Opening.{BothOnlyRead, IsOfReading, Opened}
use Rattle.relay_store.specs.Store.{Keeps, seen_in}
use Rattle.relay_store.specs.declared.fault.StoreFault.{StoreFault}
use Rattle.relay_store.specs.declared.store.Store.{Store}
use Rattle.relay_store.specs.Pairs.{StandsFor}
use Rattle.relay_store.proofs.Beside.{kept_stands, leaves_stand, opened_keeps, opened_leaves}
use Rattle.relay_store.proofs.Images.{no_journal}
use Rattle.at_cid.specs.Counts.{Counted, CountedPair}
use Rattle.run_base.specs.Ends.{Writes}
use Rattle.run_base.specs.Place.{Place, SamePair, Tells, disk_of}
use Rattle.run_base.specs.Reading.{AtMostLogMade}
use Rattle.run_base.specs.Statuses.{status_of_fault}
use Rattle.run_base.specs.declared.pair.Pair.{Pair}
use Rattle.run_base.specs.declared.status.Status.{Status}
use Rattle.run_base.proofs.Ended.{counted_behind, fault_writes}
use Rattle.read_run.specs.Events.{WasRead}
use Rattle.read_run.specs.OnRead.{OnRead}
use Rattle.read_run.specs.Picking.{with_disk}
use Rattle.read_run.specs.Replayed.{StandAgain}

-- what was only read stands for the journal still
stands_still : (J : List Row) (one two one_now two_now : View) → Goes Same one one_now → Goes Same two two_now
    → StandsFor J one two → StandsFor J one_now two_now
stands_still J one two one_now two_now first second stands = record {
  now = subst (λ (c : List ℕ). IsPairImageOf J c two_now.content) (sym first.content)
      (subst (λ (d : List ℕ). IsPairImageOf J one.content d) (sym second.content) stands.now);
  left = λ c d left beside. stands.left c d (unchanged one one_now first c left)
      (unchanged two two_now second d beside);
}

-- they were opened
pub again_opened : (tells : Bool) (one two one_mid two_mid one_now two_now : View) (s : Store) (was : Type 0)
    (J : List Row) → IsDisk one_mid → IsDisk two_mid
    → Opened tells one two one_mid two_mid (Ok s) → IsTrue tells → IsPairImageOf J one.content two.content
    → Goes Same one_mid one_now → Goes Same two_mid two_now → StandAgain J was one two one_now two_now
again_opened tells one two one_mid two_mid one_now two_now s was J first second opened told image one_goes two_goes =
    let keeps = opened_keeps tells one two one_mid two_mid s opened told J image in
    record {
      stands = λ _. stands_still J one_mid two_mid one_now two_now one_goes two_goes
          (kept_stands s.side J (seen_in s) one_mid two_mid first second (opened.side told) keeps);
      crashes = λ stands. pair_still_two (IsPairImageOf J) one one_now two two_mid two_now second
          (pair_still_one (IsPairImageOf J) one one_mid one_now two two_mid first
          (opened_leaves tells one two one_mid two_mid (Ok s) opened told J stands) one_goes) two_goes;
    }

-- ---- only read

side_again : (side : Side) (one two one_mid two_mid one_now two_now : View) → IsDisk one → IsDisk two
    → Goes Same (view_of_side side one two) (view_of_side side one_mid two_mid)
    → Goes Same one_mid one_now → Goes Same two_mid two_now
    → Goes Same (view_of_side side one two) (view_of_side side one_now two_now)
side_again One one two one_mid two_mid one_now two_now first second goes one_goes two_goes =
    still_again one one_mid one_now first goes one_goes
side_again Two one two one_mid two_mid one_now two_now first second goes one_goes two_goes =
    still_again two two_mid two_now second goes two_goes

-- they were opened
pub read_opened : (tells : Bool) (one two one_mid two_mid one_now two_now : View) (s : Store) → IsDisk one → IsDisk two
    → Opened tells one two one_mid two_mid (Ok s)
    → IsTrue tells → Goes Same one_mid one_now → Goes Same two_mid two_now → AtMostLogMade one two one_now two_now
read_opened tells one two one_mid two_mid one_now two_now s first second opened told one_goes two_goes = inr (record {
  beside = record {
    side = s.side;
    picked = opened.picked told;
    other = side_again (other_side s.side) one two one_mid two_mid one_now two_now first second opened.beside one_goes
        two_goes;
  };
  own = λ had. side_again s.side one two one_mid two_mid one_now two_now first second (opened.only_read told had)
      one_goes two_goes;
})

-- no count fell
pub level : (n : ℕ) → n ≤ n
level n = omega arith

-- nothing was read after it
pub both_here : (one two : View) → BothOnlyRead one two one two
both_here one two = record { first = still_here one; second = still_here two }

-- ---- the disk that is lent of the two

pub lent_same : {D : Type 0} (side : Side) (o p : Pair D) (d : D) → SamePair o p → SamePair o (with_disk side p d)
lent_same One o p d same = record { one = same.one; two = same.two }
lent_same Two o p d same = record { one = same.one; two = same.two }

module _ {D : Type 0} (view : D → View) (side : Side) (p : Pair D) (lent d e : D) (is : lent ≡ disk_of side p)
    (same : d ≡ e) (tells : Bool) (status : Status) (read : WasRead tells (view lent) (view e) status) where
  from_lent : WasRead tells (view (disk_of side p)) (view d) status
  from_lent = subst (λ (x : D). WasRead tells (view x) (view d) status) is
      (subst (λ (x : D). WasRead tells (view lent) (view x) status) (sym same) read)

  pub lent_read : BothOnlyRead (view p.one.now) (view p.two.now) (view (with_disk side p d).one.now)
      (view (with_disk side p d).two.now)
  lent_read = by side from_lent.goes
    where
      by : (s : Side) → Goes Same (view (disk_of s p)) (view d)
          → BothOnlyRead (view p.one.now) (view p.two.now) (view (with_disk s p d).one.now)
          (view (with_disk s p d).two.now)
      by One goes = record { first = goes; second = still_here (view p.two.now) }
      by Two goes = record { first = still_here (view p.one.now); second = goes }

  -- after a call that left the counts of both as they were
  pub lent_counts : (one two : ℕ) → ((view p.one.now).faults ≡ one) × ((view p.two.now).faults ≡ two)
      → CountedPair (status ≡ Status.Disk) one two (view (with_disk side p d).one.now).faults
      (view (with_disk side p d).two.now).faults
  lent_counts one two before = counted_behind (status ≡ Status.Disk) one two _ _ _ _ before (by side from_lent.counts)
    where
      by : (s : Side) → Counted (status ≡ Status.Disk) (view (disk_of s p)).faults (view d).faults
          → CountedPair (status ≡ Status.Disk) (view p.one.now).faults (view p.two.now).faults
          (view (with_disk s p d).one.now).faults (view (with_disk s p d).two.now).faults
      by One counts = record {
        rose = λ at. inl (counts.rose at);
        steady = λ not. (counts.steady not, refl);
        one_kept = counts.kept;
        two_kept = omega arith;
      }
      by Two counts = record {
        rose = λ at. inr (counts.rose at);
        steady = λ not. (refl, counts.steady not);
        one_kept = omega arith;
        two_kept = counts.kept;
      }

-- the disk that is lent keeps what opening found
pub lent_keeps : {D : Type 0} (view : D → View) (J : List Row) (s : Store) (side : Side) (p : Pair D) (disk : D)
    → side ≡ s.side → disk ≡ disk_of side p
    → Keeps J (seen_in s) (view_of_side s.side (view p.one.now) (view p.two.now)) → Keeps J (seen_in s) (view disk)
lent_keeps {D = D} view J s side p disk of is keeps =
    subst (λ (x : D). Keeps J (seen_in s) (view x)) (sym is)
    (by side (subst (λ (x : Side). Keeps J (seen_in s) (view_of_side x (view p.one.now) (view p.two.now))) (sym of)
    keeps))
  where
    by : (x : Side) → Keeps J (seen_in s) (view_of_side x (view p.one.now) (view p.two.now))
        → Keeps J (seen_in s) (view (disk_of x p))
    by One keeps = keeps
    by Two keeps = keeps

-- ---- what is left on the two

-- they weren't opened
pub unopened_does : (t : Tells) (most : ℕ) (J : List Row) (last : List ℕ) (old new : Place) (fault : StoreFault)
    (status : Status) → IsDisk new.one → IsDisk new.two
    → Opened t.disk old.one old.two new.one new.two (Err fault) → IsTrue t.disk
    → IsPairImageOf J old.one.content old.two.content → status ≡ status_of_fault fault → IsOfReading fault
    → ((p : ℕ) → fault ≡ StoreFault.BadLog p → IsBadPairJournalAt p old.one.content old.two.content)
    → new.written ≡ old.written → OnRead t most J [] last old new status
unopened_does t most J last old new fault status first second opened told image is of bad same = record {
  stands = λ not. ⊎_elim (λ none. absurd (none_left fault is of bad not none))
      (λ stands. leaves_stand J old.one old.two new.one new.two first second
      (opened_leaves t.disk old.one old.two new.one new.two (Err fault) opened told J stands));
  crashes = λ stands. opened_leaves t.disk old.one old.two new.one new.two (Err fault) opened told J stands;
  room = λ _. inl refl;
  journal = image.are.journal;
  sound = λ _ sound. sound;
  faithful = λ faithful. faithful;
  given = λ checks opens links bytes given. given;
  written = λ _. subst (λ (w : List ℕ). Writes status [] last old.written w) (sym same)
      (fault_writes fault status last old.written is);
}
  where
    none_left : (f : StoreFault) → status ≡ status_of_fault f → IsOfReading f
        → ((p : ℕ) → f ≡ StoreFault.BadLog p → IsBadPairJournalAt p old.one.content old.two.content)
        → status ≢ Status.Disk → status ≢ Status.Memory → ⊥
    none_left StoreFault.Disk is of bad disk memory = disk is
    none_left (StoreFault.BadLog p) is of bad disk memory =
        no_journal p old.one.content old.two.content J image (bad p refl)
    none_left (StoreFault.Full e) is of bad disk memory = of
    none_left StoreFault.SeqEnd is of bad disk memory = of
    none_left StoreFault.Authority is of bad disk memory = of
    none_left StoreFault.Repos is of bad disk memory = of
    none_left StoreFault.Memory is of bad disk memory = memory is
    none_left StoreFault.Clock is of bad disk memory = of

-- they were
pub opened_does : (t : Tells) (most : ℕ) (J : List Row) (lines last : List ℕ) (old new : Place) (one_mid two_mid : View)
    (s : Store) (status : Status) → IsDisk one_mid → IsDisk two_mid
    → Opened t.disk old.one old.two one_mid two_mid (Ok s) → IsTrue t.disk
    → IsPairImageOf J old.one.content old.two.content → BothOnlyRead one_mid two_mid new.one new.two
    → (IsTrue t.output → Writes status lines last old.written new.written) → OnRead t most J lines last old new status
opened_does t most J lines last old new one_mid two_mid s status first second opened told image read writes =
    let again : StandAgain J ⊤ old.one old.two new.one new.two = again_opened t.disk old.one old.two one_mid two_mid
    new.one new.two s ⊤ J first second opened told image read.first read.second in
    record {
      stands = λ _ _. again.stands (inl tt);
      crashes = again.crashes;
      room = λ _. inl refl;
      journal = image.are.journal;
      sound = λ _ sound. sound;
      faithful = λ faithful. faithful;
      given = λ checks opens links bytes given. given;
      written = writes;
    }
