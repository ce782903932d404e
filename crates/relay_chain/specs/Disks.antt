-- The two disks of the first relay, which are only read (own).
use Rattle.std.specs.Prelude.{◌⊎◌, Bool, List}
use Rattle.at_cid.specs.Counts.{Rose, CountedPair}
use Rattle.relay_disk.specs.Disk.{View}
use Rattle.relay_disk.specs.Moments.{PairLeavesOnly}
use Rattle.relay_row.specs.declared.row.Row.{Row}
use Rattle.relay_store.specs.Journals.{IsBadPairJournalAt, IsPairImageOf}
use Rattle.relay_store.specs.Pairs.{StandsFor}
use Rattle.run_base.specs.Ends.{Shows}
use Rattle.run_base.specs.Place.{Faults, Place}
use Rattle.run_base.specs.declared.pair.Pair.{Pair}
use Rattle.run_base.specs.declared.status.Status.{Status}

-- whether they tell what they hold, and what they are
pub record Disks : Type 1 where
  pub tells : Bool
  pub one : View
  pub two : View

abbrev pub two_disks : Bool → View → View → Disks
two_disks tells one two = record { tells = tells; one = one; two = two }

abbrev pub disks_of : {D : Type 0} → Bool → (D → View) → Pair D → Disks
disks_of tells view p = two_disks tells (view p.one.now) (view p.two.now)

-- they are an image of the journal
abbrev pub HaveJournal : List Row → Disks → Type 0
HaveJournal J d = IsPairImageOf J d.one.content d.two.content

-- a count of theirs rose where the call failed for them, and else both stand
abbrev pub CountedOf : Disks → Disks → Type 0 → Type 0
CountedOf old new failed =
    CountedPair failed old.one.faults old.two.faults new.one.faults new.two.faults

-- a count of theirs rose, or one of the parts that the second relay is handed
abbrev pub AnyRose : Disks → Disks → Faults → Faults → Type 0
AnyRose first first_now old new = Rose first.one.faults first_now.one.faults
    ⊎ (Rose first.two.faults first_now.two.faults
    ⊎ (Rose old.one new.one ⊎ (Rose old.two new.two ⊎ (Rose old.output new.output
    ⊎ (Rose old.repos new.repos ⊎ Rose old.clock new.clock)))))

-- They stand for the journal again: once they were opened, and where they stood for it before. And
-- where they did, whatever moments a crash strikes the two at, it leaves the journal.
pub record StandAgain (J : List Row) (opened : Type 0) (old new : Disks) : Type 0 where
  pub stands : opened ⊎ StandsFor J old.one old.two → StandsFor J new.one new.two
  pub crashes : StandsFor J old.one old.two
      → PairLeavesOnly (IsPairImageOf J) old.one new.one old.two new.two

-- What the bytes of the disks of both relays were, by the status. The first pair is opened before
-- the second.
abbrev pub BothShow : Status → Disks → Place → Type 0
BothShow (Status.BadLog at) first old =
    IsBadPairJournalAt at first.one.content first.two.content
    ⊎ (((J : List Row) × HaveJournal J first)
    × IsBadPairJournalAt at old.one.content old.two.content)
BothShow status first old = Shows status first.one.content first.two.content
    × Shows status old.one.content old.two.content
