-- How commands end: why, what the disks were, and what was written (own).
use Rattle.std.specs.Prelude.{◌≡◌, ◌≢◌, ◌⊎◌, ⊤, ℕ, List, ◌++◌, Result, Ok, Err, IsTrue}
use Rattle.at_authority.specs.Panels.{IsSpent}
use Rattle.at_cid.specs.Counts.{Rose}
use Rattle.relay_io.specs.Streams.{AddsFront}
use Rattle.relay_row.specs.declared.row.Row.{Row}
use Rattle.relay_step.specs.Causes.{SpendsNone}
use Rattle.relay_store.specs.Journals.{IsBadPairJournalAt, IsPairImageOf}
use Rattle.relay_store.specs.Opening.{BothOnlyRead}
use Rattle.relay_store.specs.declared.fault.StoreFault.{StoreFault}
use Rattle.run_base.specs.Place.{Place, Tells}
use Rattle.run_base.specs.Statuses.{status_of_fault}
use Rattle.run_base.specs.declared.status.Status.{Status}

-- ---- the journal of the disks

-- the disks tell what they hold: this journal
abbrev pub HoldsJournal : Tells → List Row → Place → Type 0
HoldsJournal t J p = IsTrue t.disk × IsPairImageOf J p.one.content p.two.content

-- they hold none
abbrev pub HoldsNone : Tells → Place → Type 0
HoldsNone t p = IsTrue t.disk
    × ((J : List Row) → IsPairImageOf J p.one.content p.two.content → ⊥)

-- unless one of them failed, they were only read
abbrev pub AreOnlyRead : Status → Place → Place → Type 0
AreOnlyRead status old new = status ≢ Status.Disk → BothOnlyRead old.one old.two new.one new.two

-- what the bytes of the two disks were: no image of a journal, which they show at this place, or an image of one; where a disk
-- failed or memory ran out nothing is said
abbrev pub Shows : Status → List ℕ → List ℕ → Type 0
Shows Status.Disk one two = ⊤
Shows Status.Memory one two = ⊤
Shows (Status.BadLog place) one two = IsBadPairJournalAt place one two
Shows status one two = (J : List Row) × IsPairImageOf J one two

-- ---- why

-- A status that speaks of a failure comes only where a count of that part rose, and one that speaks of authorities only
-- where all of some method have fallen.
abbrev pub Caused : Status → Place → Place → Type 0
Caused Status.Disk old new = Rose old.failed.one new.failed.one ⊎ Rose old.failed.two new.failed.two
Caused Status.Authority old new = (method : List ℕ) × IsSpent (new.around.panel method)
Caused Status.Repos old new = Rose old.failed.repos new.failed.repos
Caused Status.Clock old new = Rose old.failed.clock new.failed.clock
Caused Status.WriteFault old new = Rose old.failed.output new.failed.output
Caused Status.ReadFault old new = Rose old.failed.input new.failed.input
Caused Status.Feed old new = Rose old.failed.feed new.failed.feed
Caused Status.Door old new = Rose old.failed.door new.failed.door
Caused Status.Wire old new = Rose old.failed.wire new.failed.wire
Caused status old new = ⊤

-- A part that failed, and authorities that fell, are what the status speaks of.
pub record Told (status : Status) (old new : Place) : Type 0 where
  pub disks : status ≢ Status.Disk
      → (new.failed.one ≡ old.failed.one) × (new.failed.two ≡ old.failed.two)
  pub unspent : status ≢ Status.Authority → SpendsNone old.around.panel new.around.panel
  pub repos : status ≢ Status.Repos → new.failed.repos ≡ old.failed.repos
  pub clock : status ≢ Status.Clock → new.failed.clock ≡ old.failed.clock
  pub output : status ≢ Status.WriteFault → new.failed.output ≡ old.failed.output
  pub input : status ≢ Status.ReadFault → new.failed.input ≡ old.failed.input
  pub feed : status ≢ Status.Feed → new.failed.feed ≡ old.failed.feed
  pub door : status ≢ Status.Door → new.failed.door ≡ old.failed.door
  pub wire : status ≢ Status.Wire → new.failed.wire ≡ old.failed.wire

-- The same, but where a failure of who is asked, or of the input, may have come before what the status speaks of.
pub record ToldBut (hidden unread : Type 0) (status : Status) (old new : Place) : Type 0 where
  pub disks : status ≢ Status.Disk
      → (new.failed.one ≡ old.failed.one) × (new.failed.two ≡ old.failed.two)
  pub unspent : (hidden → ⊥) → status ≢ Status.Authority
      → SpendsNone old.around.panel new.around.panel
  pub repos : (hidden → ⊥) → status ≢ Status.Repos → new.failed.repos ≡ old.failed.repos
  pub clock : (hidden → ⊥) → status ≢ Status.Clock → new.failed.clock ≡ old.failed.clock
  pub output : status ≢ Status.WriteFault → new.failed.output ≡ old.failed.output
  pub input : (unread → ⊥) → status ≢ Status.ReadFault → new.failed.input ≡ old.failed.input
  pub feed : status ≢ Status.Feed → new.failed.feed ≡ old.failed.feed
  pub door : new.failed.door ≡ old.failed.door
  pub wire : new.failed.wire ≡ old.failed.wire

-- ---- how a part ends

-- in order, where it has an answer
abbrev pub status_in : {A : Type 0} → Result A Status → Status
status_in (Ok done) = Status.Done
status_in (Err status) = status

-- what is to be written isn't: a call of the output failed, or memory ran out
abbrev pub IsUnwritten : Status → Type 0
IsUnwritten status = (status ≡ Status.WriteFault) ⊎ (status ≡ Status.Memory)

-- or all was written
abbrev pub IsFinished : Status → Type 0
IsFinished status = (status ≡ Status.Done) ⊎ IsUnwritten status

-- ---- what was written

-- Lines and a last one: all of it at a good end, a front where a call of the output failed or memory ran out, and else all but
-- the last line.
abbrev pub Writes : Status → List ℕ → List ℕ → List ℕ → List ℕ → Type 0
Writes Status.Done lines last old new = new ≡ old ++ (lines ++ last)
Writes (Status.Refused code) lines last old new = new ≡ old ++ (lines ++ last)
Writes Status.WriteFault lines last old new = AddsFront old new (lines ++ last)
Writes Status.Memory lines last old new = AddsFront old new (lines ++ last)
Writes status lines last old new = new ≡ old ++ lines

-- nothing after a fault of the store
abbrev pub IsQuiet : Status → List ℕ → List ℕ → Type 0
IsQuiet status old new = (fault : StoreFault) → status ≡ status_of_fault fault → new ≡ old

-- ---- together

-- A command ended so that writes nothing after a fault of the store.
pub record Ended (t : Tells) (old new : Place) (status : Status) : Type 0 where
  pub shows : IsTrue t.disk → Shows status old.one.content old.two.content
  pub quiet : IsTrue t.output → IsQuiet status old.written new.written
  pub caused : Caused status old new
  pub told : Told status old new
