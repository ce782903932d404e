-- What the command does that cuts the journal of two disks (own).
use Rattle.std.specs.Prelude.{◌≡◌, ◌⊎◌, ⊤, ℕ, List, []}
use Rattle.relay_disk.specs.Disk.{View}
use Rattle.relay_disk.specs.Moments.{PairLeavesOnly}
use Rattle.relay_row.specs.declared.row.Row.{Row}
use Rattle.relay_law.specs.Carried.{AreOfKnown}
use Rattle.cut_law.specs.Cut.{MayCut, cut}
use Rattle.relay_store.specs.Journals.{IsPairImageOf}
use Rattle.relay_store.specs.Opening.{IsOfReading}
use Rattle.store_cut.specs.declared.cutting.CutDone.{CutDone}
use Rattle.relay_store.specs.declared.fault.StoreFault.{StoreFault}
use Rattle.run_base.specs.Cutting.{IsAnswerOf, EndsRewriting}
use Rattle.run_base.specs.Deeds.{Came, Deed, OnDisks, WasOpened, answered, in_vain, unopened}
use Rattle.run_base.specs.Place.{Place, Tells}
use Rattle.run_base.specs.Statuses.{status_of_fault}
use Rattle.run_base.specs.declared.status.Status.{Status}
use Rattle.relay_run.specs.Lines.{EndsCut, cut_text}

-- what came of it, and how it may end by that, with these bytes on the two disks: in vain where the
-- journal wasn't written anew
abbrev pub IsCutCome : ℕ → List Row → ℕ → List ℕ → List ℕ → Status → Came CutDone → Type 0
IsCutCome most J c one two status unopened = (fault : StoreFault)
    × (status ≡ status_of_fault fault) × IsOfReading fault
IsCutCome most J c one two status in_vain = (fault : StoreFault)
    × (status ≡ status_of_fault fault) × MayCut J c × EndsRewriting most (cut J c) one two fault
IsCutCome most J c one two status (answered done) = IsAnswerOf most J c one two done
    × EndsCut done status

-- Whatever moments a crash strikes two disks at, it leaves a journal: this one while they are
-- opened, and from then on what has P.
pub record LeavesOpened {S : Type 0} (place : S → Place) (J : List Row)
    (P : List ℕ → List ℕ → Type 0) (one one_now two two_now : View) : Type 0 where
  pub mid : S
  pub opening : PairLeavesOnly (IsPairImageOf J) one (place mid).one two (place mid).two
  pub behind : PairLeavesOnly P (place mid).one one_now (place mid).two two_now
  -- what a crash since the start leaves on each, it leaves while they were opened, or from then on
  pub first : (c : List ℕ) → one_now.left_since one.moment c
      → (place mid).one.left_since one.moment c ⊎ one_now.left_since (place mid).one.moment c
  pub second : (c : List ℕ) → two_now.left_since two.moment c
      → (place mid).two.left_since two.moment c ⊎ two_now.left_since (place mid).two.moment c

-- the journal stays, and a text is written
abbrev pub uncut : {S : Type 0} → (S → Place) → List Row → List ℕ → Deed
uncut place J text = record {
  meant = J;
  sound_by = ⊤;
  after = J;
  way = LeavesOpened place J (IsPairImageOf J);
  lines = [];
  last = text;
}

-- the journal is cut and written anew, of which this comes; it stays sound where no commit in it is
-- of an account that was lost
abbrev pub cuts : {S : Type 0} → (S → Place) → List Row → ℕ → List Row → List ℕ → Deed
cuts place J c after text = record {
  meant = cut J c;
  sound_by = AreOfKnown [] J;
  after = after;
  way = LeavesOpened place J (λ x y. IsPairImageOf J x y ⊎ IsPairImageOf (cut J c) x y);
  lines = [];
  last = text;
}

abbrev pub cut_deed : {S : Type 0} → (S → Place) → List Row → ℕ → Came CutDone → Deed
cut_deed place J c unopened = uncut place J []
cut_deed place J c in_vain = cuts place J c J []
cut_deed place J c (answered (CutDone.Refused why)) =
    uncut place J (cut_text c (CutDone.Refused why))
cut_deed place J c (answered (CutDone.Cut oldest last)) =
    cuts place J c (cut J c) (cut_text c (CutDone.Cut oldest last))

-- The journal J of two disks was to be cut at a number.
pub record WasCut {S : Type 0} (place : S → Place) (t : Tells) (most : ℕ) (J : List Row) (c : ℕ)
    (old new : Place) (status : Status) : Type 0 where
  pub came : Came CutDone
  pub is : IsCutCome most J c new.one.content new.two.content status came
  pub does : OnDisks t most J (WasOpened came) (cut_deed place J c came) old new status
