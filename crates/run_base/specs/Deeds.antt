-- What a command makes of a journal, and leaves on its two disks (own).
use Rattle.std.specs.Prelude.{◌≡◌, ◌≢◌, ◌⊎◌, ⊤, ℕ, List, [], ◌++◌, IsTrue}
use Rattle.relay_disk.specs.Disk.{View}
use Rattle.relay_disk.specs.Moments.{PairLeavesOnly}
use Rattle.relay_row.specs.Journal.{IsJournal}
use Rattle.relay_row.specs.declared.row.Row.{Row}
use Rattle.relay_core.specs.Decide.{Checks}
use Rattle.relay_core.specs.Opening.{OpensRight}
use Rattle.relay_law.specs.Faithful.{IsFaithfulJournal}
use Rattle.relay_law.specs.Right.{LinksRight}
use Rattle.relay_law.specs.Sound.{IsSound}
use Rattle.chain_law.specs.Given.{AreGiven}
use Rattle.chain_law.specs.Made.{GiveBytes}
use Rattle.relay_store.specs.Journals.{IsPairImageOf}
use Rattle.relay_store.specs.Pairs.{IsOneOfPair, StandsFor}
use Rattle.relay_store.specs.Room.{PairHasRoom}
use Rattle.run_base.specs.Ends.{Writes}
use Rattle.run_base.specs.Place.{Place, Tells}
use Rattle.run_base.specs.declared.status.Status.{Status}

-- What came of a command: the disks weren't opened, or nothing came of it, or this was answered.
pub data Came (A : Type 0) : Type 0 where
  unopened : Came A
  in_vain : Came A
  answered : (answer : A) → Came A

abbrev pub WasOpened : {A : Type 0} → Came A → Type 0
WasOpened unopened = ⊥
WasOpened in_vain = ⊤
WasOpened (answered answer) = ⊤

-- What a command makes of a journal: the one that it was to be, and by what a sound one stays sound; the one that the disks have at the
-- end; what a crash on the way leaves of them; and what is written.
pub record Deed : Type 1 where
  pub meant : List Row
  pub sound_by : Type 0
  pub after : List Row
  pub way : View → View → View → View → Type 0
  pub lines : List ℕ
  pub last : List ℕ

-- the journal stays, and a text is written
abbrev pub reads : List Row → List ℕ → Deed
reads J text = record {
  meant = J;
  sound_by = ⊤;
  after = J;
  way = λ one one_now two two_now. PairLeavesOnly (IsPairImageOf J) one one_now two two_now;
  lines = [];
  last = text;
}

-- rows were to be added, of which these were
abbrev pub adds : List Row → List Row → List Row → List ℕ → Deed
adds J rows kept text = record {
  meant = J ++ rows;
  sound_by = ⊤;
  after = J ++ kept;
  way = λ one one_now two two_now. PairLeavesOnly (IsOneOfPair J rows) one one_now two two_now;
  lines = [];
  last = text;
}

-- at a good end the first, and after a fault the second
abbrev pub by_end : {A : Type 0} → Status → A → A → A
by_end Status.Done done undone = done
by_end (Status.Refused code) done undone = done
by_end Status.WriteFault done undone = done
by_end status done undone = undone

-- What a command leaves on the two disks of the journal J.
pub record OnDisks (t : Tells) (most : ℕ) (J : List Row) (opened : Type 0) (d : Deed)
    (old new : Place) (status : Status) : Type 0 where
  -- Unless a disk failed, the two stand for the journal then: once they were opened, and where they stood for J before.
  pub stands : status ≢ Status.Disk → opened ⊎ StandsFor J old.one old.two
      → StandsFor d.after new.one new.two
  -- And whatever moments a crash strikes the two at, it leaves what is on the way.
  pub crashes : StandsFor J old.one old.two → d.way old.one new.one old.two new.two
  -- the log that is picked has room for a journal that isn't J
  pub room : status ≢ Status.Disk
      → (d.after ≡ J) ⊎ PairHasRoom most d.after new.one.content new.two.content
  -- what was to be is a journal, and a sound or a faithful one where J is
  pub journal : IsJournal d.meant
  pub sound : d.sound_by → IsSound J → IsSound d.meant
  pub faithful : IsFaithfulJournal J → IsFaithfulJournal d.meant
  -- and so is one of which each row is given, where the repositories that tell give bytes
  pub given : (checks : Checks) → OpensRight checks → LinksRight checks
      → (IsTrue t.repos → GiveBytes old.around.repository)
      → AreGiven checks [] J → AreGiven checks [] d.meant
  pub written : IsTrue t.output → Writes status d.lines d.last old.written new.written
