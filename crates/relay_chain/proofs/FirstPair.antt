-- The first pair of disks, which is opened and then only read.
use Rattle.std.proofs.Common.{◌≡◌, ⊎_elim, inr, ℕ, List, Ok, Err, IsTrue, sym, subst}
use Rattle.relay_disk.specs.Disk.{View, IsDisk, Goes, Same}
use Rattle.relay_disk.proofs.Moments.{pair_still_one, pair_still_two, still_again, unchanged}
use Rattle.gate_log.specs.Pick.{other_side, view_of_side}
use Rattle.gate_log.specs.declared.picking.Side.{Side}
use Rattle.gate_log.specs.declared.picking.Side.TheVariants.{One, Two}
use Rattle.relay_row.specs.declared.row.Row.{Row}
use Rattle.relay_store.specs.Journals.{IsPairImageOf}
use Rattle.relay_store.specs.Opening.{BothOnlyRead, IsOfReading, Opened}
use Rattle.relay_store.specs.Pairs.{StandsFor}
use Rattle.relay_store.specs.Store.{seen_in}
use Rattle.relay_store.specs.declared.fault.StoreFault.{StoreFault}
use Rattle.relay_store.specs.declared.store.Store.{Store}
use Rattle.relay_store.proofs.Beside.{kept_stands, leaves_stand, opened_keeps, opened_leaves}
use Rattle.run_base.specs.Reading.{AtMostLogMade}
use Rattle.run_base.specs.Statuses.{status_of_fault}
use Rattle.run_base.specs.declared.status.Status.{Status}
use Rattle.relay_chain.specs.Disks.{Disks, HaveJournal, StandAgain}
use Rattle.relay_chain.specs.Ends.{BothOpened}

-- ---- it wasn't opened

not_opened : (fault : StoreFault) → IsOfReading fault → BothOpened (status_of_fault fault) → ⊥
not_opened StoreFault.Disk of is = is
not_opened (StoreFault.BadLog p) of is = is
not_opened (StoreFault.Full e) of is = of
not_opened StoreFault.SeqEnd of is = of
not_opened StoreFault.Authority of is = of
not_opened StoreFault.Repos of is = of
not_opened StoreFault.Memory of is = is
not_opened StoreFault.Clock of is = of

pub again_unopened : (old new : Disks) (fault : StoreFault) (status : Status) (J : List Row) → IsDisk new.one → IsDisk new.two → Opened old.tells old.one old.two new.one new.two (Err fault) → IsTrue old.tells → IsOfReading fault → status ≡ status_of_fault fault
    → StandAgain J (BothOpened status) old new
again_unopened old new fault status J first second opened told of is = record {
  stands = ⊎_elim (λ was. absurd (not_opened fault of (subst BothOpened is was))) (λ stands. leaves_stand J old.one old.two new.one new.two first second (opened_leaves old.tells old.one old.two new.one new.two (Err fault) opened told J stands));
  crashes = λ stands. opened_leaves old.tells old.one old.two new.one new.two (Err fault) opened told J stands;
}

-- ---- it was

-- what was only read stands for the journal still
stands_still : (J : List Row) (one two one_now two_now : View) → Goes Same one one_now → Goes Same two two_now → StandsFor J one two → StandsFor J one_now two_now
stands_still J one two one_now two_now first second stands = record {
  now = subst (λ (c : List ℕ). IsPairImageOf J c two_now.content) (sym first.content) (subst (λ (d : List ℕ). IsPairImageOf J one.content d) (sym second.content) stands.now);
  left = λ c d left beside. stands.left c d (unchanged one one_now first c left) (unchanged two two_now second d beside);
}

side_again : (side : Side) (one two one_mid two_mid one_now two_now : View) → IsDisk one → IsDisk two → Goes Same (view_of_side side one two) (view_of_side side one_mid two_mid)
    → Goes Same one_mid one_now → Goes Same two_mid two_now → Goes Same (view_of_side side one two) (view_of_side side one_now two_now)
side_again One one two one_mid two_mid one_now two_now first second goes one_goes two_goes = still_again one one_mid one_now first goes one_goes
side_again Two one two one_mid two_mid one_now two_now first second goes one_goes two_goes = still_again two two_mid two_now second goes two_goes

module _ (old mid new : Disks) (s : Store) (opened : Opened old.tells old.one old.two mid.one mid.two (Ok s)) (told : IsTrue old.tells) (read : BothOnlyRead mid.one mid.two new.one new.two) where
  pub again_opened : (J : List Row) (was : Type 0) → IsDisk mid.one → IsDisk mid.two → HaveJournal J old → StandAgain J was old new
  again_opened J was first second image =
      let keeps = opened_keeps old.tells old.one old.two mid.one mid.two s opened told J image in
      record {
        stands = λ _. stands_still J mid.one mid.two new.one new.two read.first read.second (kept_stands s.side J (seen_in s) mid.one mid.two first second (opened.side told) keeps);
        crashes = λ stands. pair_still_two (IsPairImageOf J) old.one new.one old.two mid.two new.two second
            (pair_still_one (IsPairImageOf J) old.one mid.one new.one old.two mid.two first (opened_leaves old.tells old.one old.two mid.one mid.two (Ok s) opened told J stands) read.first) read.second;
      }

  -- at most a log was made
  pub read_opened : IsDisk old.one → IsDisk old.two → AtMostLogMade old.one old.two new.one new.two
  read_opened first second = inr (record {
    beside = record {
      side = s.side;
      picked = opened.picked told;
      other = side_again (other_side s.side) old.one old.two mid.one mid.two new.one new.two first second opened.beside read.first read.second;
    };
    own = λ had. side_again s.side old.one old.two mid.one mid.two new.one new.two first second (opened.only_read told had) read.first read.second;
  })
