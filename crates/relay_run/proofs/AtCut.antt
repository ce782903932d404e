-- What the command did that cuts the journal of two disks, from what opening found and the store answered.
use Rattle.std.proofs.Common.{◌≡◌, ◌⊎◌, inl, ⊎_elim, ℕ, List, [], Ok, Err, IsTrue, refl, sym, subst, arith}
use Rattle.at_event.specs.declared.refusal.Refusal.{Refusal}
use Rattle.relay_disk.specs.Disk.{View, IsDisk}
use Rattle.relay_disk.specs.Moments.{PairLeavesOnly, TimeGoesOn}
use Rattle.relay_row.specs.declared.row.Row.{Row}
use Rattle.cut_law.specs.Cut.{cut}
use Rattle.relay_step.specs.Around.{Around}
use Rattle.relay_store.specs.Journals.{IsPairImageOf}
use Rattle.relay_store.specs.Opening.{IsOfReading, Opened}
use Rattle.relay_store.specs.Pairs.{StandsFor}
use Rattle.store_cut.specs.declared.cutting.CutDone.{CutDone}
use Rattle.relay_store.specs.declared.fault.StoreFault.{StoreFault}
use Rattle.relay_store.specs.declared.store.Store.{Store}
use Rattle.relay_store.proofs.Beside.{leaves_stand, opened_leaves}
use Rattle.run_base.specs.Cutting.{CutCame, EndsRewriting}
use Rattle.run_base.specs.Deeds.{answered, in_vain, unopened}
use Rattle.run_base.specs.Ends.{Writes}
use Rattle.run_base.specs.Place.{Faults, Place, Tells, at_place}
use Rattle.run_base.specs.Statuses.{status_of_fault}
use Rattle.run_base.specs.declared.status.Status.{Status}
use Rattle.run_base.proofs.Ended.{fault_writes, other_status}
use Rattle.relay_run.specs.Cutting.{LeavesOpened, WasCut}
use Rattle.relay_run.specs.Lines.{EndsCut, cut_text}
use Rattle.relay_run.proofs.Given.{cut_gives}
use Rattle.relay_run.proofs.Sounds.{cut_known_sound, cut_ordered, cut_stays}

-- no call is made
pub still_stands : (J : List Row) (one two : View) → IsDisk one → IsDisk two → StandsFor J one two → PairLeavesOnly (IsPairImageOf J) one one two two
still_stands J one two first second stands = record {
  one_later = omega arith;
  two_later = omega arith;
  each = λ c d left beside. stands.left c d (first.only_now c left) (second.only_now d beside);
}

pub still_run : {D : Type 0} (view : D → View) (is_disk : (x : D) → IsDisk (view x)) (c d e f : D) (J : List Row) → (e ≡ c) × (f ≡ d) → StandsFor J (view c) (view d) → PairLeavesOnly (IsPairImageOf J) (view c) (view e) (view d) (view f)
still_run {D = D} view is_disk c d e f J same stands =
    subst (λ (x : D). PairLeavesOnly (IsPairImageOf J) (view c) (view x) (view d) (view f)) (sym same.0)
    (subst (λ (y : D). PairLeavesOnly (IsPairImageOf J) (view c) (view c) (view d) (view y)) (sym same.1) (still_stands J (view c) (view d) (is_disk c) (is_disk d) stands))

-- a journal that wasn't written anew isn't bad
pub came_good : (most : ℕ) (J : List Row) (c : ℕ) (one two : View) (fault : StoreFault) → CutCame most J c one two (Err fault) → (p : ℕ) → fault ≡ StoreFault.BadLog p → ⊥
came_good most J c one two fault was p is = subst (EndsRewriting most (cut J c) one.content two.content) is was.1

module _ {S : Type 0} (place : S → Place) (mid : S) (one two : View) (t : Tells) (told : IsTrue t.disk) (most number : ℕ) (J : List Row) (first : IsDisk (place mid).one) (second : IsDisk (place mid).two) (image : IsPairImageOf J one.content two.content)
    (around around_now : Around) (written : List ℕ) (failed failed_now : Faults) where
  -- the disks weren't opened
  pub cut_unopened : (fault : StoreFault) (status : Status) → status ≡ status_of_fault fault → Opened t.disk one two (place mid).one (place mid).two (Err fault) → IsOfReading fault
      → WasCut place t most J number (at_place one two around written failed) (at_place (place mid).one (place mid).two around_now written failed_now) status
  cut_unopened fault status is opened few =
      let leaves : StandsFor J one two → PairLeavesOnly (IsPairImageOf J) one (place mid).one two (place mid).two = opened_leaves t.disk one two (place mid).one (place mid).two (Err fault) opened told J in
      let stands : StandsFor J one two → StandsFor J (place mid).one (place mid).two = λ was. leaves_stand J one two (place mid).one (place mid).two first second (leaves was) in
      record {
        came = unopened;
        is = (fault, is, few);
        does = record {
          stands = λ _. ⊎_elim (λ none. absurd none) stands;
          crashes = λ was. record { mid = mid; opening = leaves was; behind = still_stands J (place mid).one (place mid).two first second (stands was); first = λ x left. inl left; second = λ x left. inl left };
          room = λ _. inl refl;
          journal = image.are.journal;
          sound = λ _ sound. sound;
          faithful = λ faithful. faithful;
          given = λ checks opens links bytes given. given;
          written = λ _. fault_writes fault status [] written is;
        };
      }

  module _ (s : Store) (opened : Opened t.disk one two (place mid).one (place mid).two (Ok s)) (one_now two_now : View) (run : PairLeavesOnly (λ x y. IsPairImageOf J x y ⊎ IsPairImageOf (cut J number) x y) (place mid).one one_now (place mid).two two_now)
      (times : TimeGoesOn (place mid).one one_now × TimeGoesOn (place mid).two two_now) where
    leaves_by : (P : List ℕ → List ℕ → Type 0) → PairLeavesOnly P (place mid).one one_now (place mid).two two_now → StandsFor J one two → LeavesOpened place J P one one_now two two_now
    leaves_by P behind was =
        let opening = opened_leaves t.disk one two (place mid).one (place mid).two (Ok s) opened told J was in
        record { mid = mid; opening = opening; behind = behind; first = λ x left. times.0.parts one.moment x opening.one_later left; second = λ x left. times.1.parts two.moment x opening.two_later left }

    -- the journal wasn't written anew
    pub cut_unwritten : (fault : StoreFault) (status : Status) → status ≡ status_of_fault fault → CutCame most J number one_now two_now (Err fault)
        → WasCut place t most J number (at_place one two around written failed) (at_place one_now two_now around_now written failed_now) status
    cut_unwritten fault status is was = record {
      came = in_vain;
      is = (fault, is, was.0, was.1);
      does = record {
        stands = λ n _. was.2 (other_status fault StoreFault.Disk status is n);
        crashes = leaves_by (λ x y. IsPairImageOf J x y ⊎ IsPairImageOf (cut J number) x y) run;
        room = λ _. inl refl;
        journal = cut_ordered J number was.0 image.are.journal;
        sound = λ known. cut_known_sound J number was.0 image.are.journal known;
        faithful = cut_stays J number was.0;
        given = λ checks opens links bytes given. cut_gives J number was.0 image.are.journal checks given;
        written = λ _. fault_writes fault status [] written is;
      };
    }

    -- it was cut, or refused
    pub cut_answered : (done : CutDone) (status : Status) (now : List ℕ) → ((why : Refusal) → done ≡ CutDone.Refused why → PairLeavesOnly (IsPairImageOf J) (place mid).one one_now (place mid).two two_now) → CutCame most J number one_now two_now (Ok done)
        → EndsCut done status → (IsTrue t.output → Writes status [] (cut_text number done) written now)
        → WasCut place t most J number (at_place one two around written failed) (at_place one_now two_now around_now now failed_now) status
    cut_answered (CutDone.Cut oldest last) status now still was ends text = record {
      came = answered (CutDone.Cut oldest last);
      is = (was.0, ends);
      does = record {
        stands = λ _ _. was.1;
        crashes = leaves_by (λ x y. IsPairImageOf J x y ⊎ IsPairImageOf (cut J number) x y) run;
        room = λ _. was.2;
        journal = cut_ordered J number was.0.0 image.are.journal;
        sound = λ known. cut_known_sound J number was.0.0 image.are.journal known;
        faithful = cut_stays J number was.0.0;
        given = λ checks opens links bytes given. cut_gives J number was.0.0 image.are.journal checks given;
        written = text;
      };
    }
    cut_answered (CutDone.Refused why) status now still was ends text = record {
      came = answered (CutDone.Refused why);
      is = (was.0, ends);
      does = record {
        stands = λ _ _. was.1;
        crashes = leaves_by (IsPairImageOf J) (still why refl);
        room = λ _. was.2;
        journal = image.are.journal;
        sound = λ _ sound. sound;
        faithful = λ faithful. faithful;
        given = λ checks opens links bytes given. given;
        written = text;
      };
    }
