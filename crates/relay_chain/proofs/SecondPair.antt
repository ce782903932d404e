-- What a relay behind a relay does on the second pair of disks, and the whole of it.
use Rattle.std.proofs.Common.{◌≡◌, ◌≢◌, ◌≤◌, ◌∙◌, inl, inr, ⊎_elim, ℕ, true, List, [], Some, Ok, IsTrue, refl, arith}
use Rattle.backfill.specs.Served.{served}
use Rattle.gate_log.specs.Pick.{other_side}
use Rattle.relay_disk.specs.Disk.{View, IsDisk}
use Rattle.relay_disk.proofs.Moments.{read_left, still_here}
use Rattle.relay_row.specs.Folds.{cursor}
use Rattle.relay_row.specs.declared.row.Row.{Row}
use Rattle.relay_step.specs.Around.{Around}
use Rattle.relay_store.specs.Journals.{IsPairImageOf}
use Rattle.relay_store.specs.Opening.{BothOnlyRead, IsOfReading, Opened}
use Rattle.relay_store.specs.Pairs.{of_pair}
use Rattle.relay_store.specs.Shown.{held_by}
use Rattle.relay_store.specs.Store.{StoreState, seen_in}
use Rattle.relay_store.specs.declared.fault.StoreFault.{StoreFault}
use Rattle.relay_store.specs.declared.store.Store.{Store}
use Rattle.run_base.specs.Ends.{HoldsJournal}
use Rattle.run_base.specs.Place.{Faults, NoneFell, Place, Tells, at_place, counts}
use Rattle.run_base.specs.Reading.{AtMostLogMade, AtMostLogWritten}
use Rattle.run_base.specs.Statuses.{status_of_fault}
use Rattle.run_base.specs.declared.status.Status.{Status}
use Rattle.run_base.proofs.Ended.{fault_writes}
use Rattle.take_run.specs.Going.{Point}
use Rattle.take_run.specs.Ingested.{Followed}
use Rattle.take_run.specs.Taken.{Unopened}
use Rattle.take_run.specs.declared.tally.Tally.{Tally}
use Rattle.take_run.proofs.FeedSteps.{left_same}
use Rattle.take_run.proofs.OnTwo.{took, whole}
use Rattle.chain_law.specs.Trust.{Trusts}
use Rattle.relay_chain.specs.Chained.{ChainRan, IsChained}
use Rattle.relay_chain.specs.Disks.{BothShow, CountedOf, Disks, HaveJournal, StandAgain}
use Rattle.relay_chain.specs.Ends.{BothOpened, ChainTold, MayEndChaining}
use Rattle.relay_chain.specs.Taking.{TakenOf}
use Rattle.relay_chain.specs.declared.journals.TheConstants.{MOST_SERVED}
use Rattle.relay_chain.proofs.AsFeed.{chained}
use Rattle.relay_chain.proofs.Showing.{completes}

-- two disks that nothing was done to
pub both_still : (one two : View) → BothOnlyRead one two one two
both_still one two = record { first = still_here one; second = still_here two }

-- ---- they weren't touched

pub untouched : (t : Tells) (most : ℕ) (fault : StoreFault) (J : List Row) (one two : View) → IsDisk one → IsDisk two → IsPairImageOf J one.content two.content → (around : Around) (written : List ℕ) (failed : Faults) (status : Status)
    → status ≡ status_of_fault fault → IsOfReading fault → Unopened t most J (at_place one two around written failed) (at_place one two around written failed) status
untouched t most fault J one two first second image around written failed status is of = record {
  fault = fault;
  is = is;
  of_reading = of;
  does = record {
    stands = λ n. ⊎_elim (λ none. absurd none) (λ stands. stands);
    crashes = λ stands. record { one_later = omega arith; two_later = omega arith; each = λ c d left beside. stands.left c d (read_left one one first (still_here one) c left) (read_left two two second (still_here two) d beside) };
    room = λ _. inl refl;
    journal = image.are.journal;
    sound = λ _ sound. sound;
    faithful = λ faithful. faithful;
    given = λ checks opens links repos given. given;
    written = λ _. fault_writes fault status [] written is;
  };
}

-- ---- no count fell

pub fell_here : (f : Faults) → NoneFell f f
fell_here f = record { one = omega arith; two = omega arith; repos = omega arith; clock = omega arith; output = omega arith; input = omega arith; feed = omega arith; door = omega arith; wire = omega arith }

pub fell_disks : (one two one_now two_now repos clock output : ℕ) → one ≤ one_now → two ≤ two_now → NoneFell (counts one two repos clock output) (counts one_now two_now repos clock output)
fell_disks one two one_now two_now repos clock output first second = record { one = first; two = second; repos = omega arith; clock = omega arith; output = omega arith; input = omega arith; feed = omega arith; door = omega arith; wire = omega arith }

pub fell_on : (f g h : Faults) → NoneFell f g → NoneFell g h → NoneFell f h
fell_on f g h one two = record {
  one = omega (arith, one.one, two.one);
  two = omega (arith, one.two, two.two);
  repos = omega (arith, one.repos, two.repos);
  clock = omega (arith, one.clock, two.clock);
  output = omega (arith, one.output, two.output);
  input = omega (arith, one.input, two.input);
  feed = omega (arith, one.feed, two.feed);
  door = omega (arith, one.door, two.door);
  wire = omega (arith, one.wire, two.wire);
}

-- ---- they were opened, and messages were taken

module _ {D : Type 0} (view : D → View) (is_disk : (x : D) → IsDisk (view x)) (a b c d : D) (t : Tells) (told : IsTrue t.disk) (s : Store) (opened : Opened t.disk (view a) (view b) (view c) (view d) (Ok s))
    (J : List Row) (image : IsPairImageOf J (view a).content (view b).content) (e f : D) (u : StoreState) (side : u.side ≡ s.side) (beside : of_pair (other_side s.side) e f ≡ of_pair (other_side s.side) c d) (most : ℕ) (most_is : s.log.most ≡ most)
    (tally after : Tally) (old new : Around) (written written_now : List ℕ) (failed mid failed_now : Faults) (still : mid ≡ failed) where
  abbrev from_here : Point
  from_here = record { store = seen_in s; tally = tally; place = at_place (view c) (view d) old written mid }

  abbrev to_there : Point
  to_there = record { store = u; tally = after; place = at_place (view e) (view f) new written_now failed_now }

  module _ (host : List ℕ) (one : List Row) (status : Status) (h : TakenOf t host (served (held_by one) (Some (cursor host J))) J from_here to_there status) where
    abbrev left : List (List ℕ)
    left = (h.taken.stream.front (served (held_by one) (Some (cursor host J))) refl).0

    followed : Followed t true host most MOST_SERVED J (at_place (view a) (view b) old written failed) to_there.place (λ n. served (held_by one) (Some n)) left h.taking
    followed =
        let front = h.taken.stream.front (served (held_by one) (Some (cursor host J))) refl in
        record {
          taken = whole view is_disk a b c d t told s opened J image e f u side beside most most_is tally after old new written written_now failed mid failed_now still h.taking h.taken.taken h.taken.ran;
          took = took view is_disk a b c d t told s opened J image e f u side beside most most_is tally after old new written written_now failed mid failed_now still h.taking h.taken.taken h.taken.ran;
          feed = record { hosts = h.taken.stream.hosts; few = h.taken.stream.few; live = h.taken.stream.live; front = λ all is. (left, left_same h.taking left left refl, is.1 ∙ front.2, front.3) };
        }

    pub chained_on : (first : Disks) (nothing : Type 0) → HaveJournal one first → Trusts old.panel → Trusts new.panel → IsChained t host most J first (at_place (view a) (view b) old written failed) to_there.place nothing status
    chained_on first nothing other trusts trusts_still =
        inr (one, other, h.taking, h.is, chained t host most one J other.are.journal left (at_place (view a) (view b) old written failed) to_there.place trusts trusts_still h.taking followed)

-- ---- the whole

pub ran : (t : Tells) (host : List ℕ) (most : ℕ) (first first_now : Disks) (old new : Place) (nothing : Type 0) (status : Status) → (IsTrue first.tells → (two : List Row) → HoldsJournal t two old → IsChained t host most two first old new nothing status)
    → (IsTrue first.tells → (one : List Row) → HaveJournal one first → StandAgain one (BothOpened status) first first_now) → MayEndChaining status → (IsTrue first.tells → IsTrue t.disk → BothShow status first old) → ChainTold (CountedOf first first_now) old new status
    → NoneFell old.failed new.failed → (IsTrue first.tells → status ≢ Status.Disk → AtMostLogMade first.one first.two first_now.one first_now.two) → (IsTrue t.disk → status ≢ Status.Disk → AtMostLogWritten old.one old.two new.one new.two)
    → ChainRan t host most first first_now old new nothing status
ran t host most first first_now old new nothing status chained still may shows told counts only_read beside = record {
  chained = chained;
  still = still;
  may = may;
  shows = shows;
  told = told;
  counts = counts;
  only_read = only_read;
  beside = beside;
  complete = λ tells one image two has none. completes status first first_now old new told may (shows tells has.0) one image two has.1 none;
}
