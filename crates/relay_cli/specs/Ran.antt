-- What a run promises whatever its command: what the command does, and which failures its status
-- tells (own).
use Rattle.std.specs.Prelude.{◌≡◌, ◌≢◌, ⊤, Bool, true, false, IsTrue}
use Rattle.relay_disk.specs.Disk.{View}
use Rattle.relay_step.specs.Causes.{SpendsNone}
use Rattle.run_base.specs.Ends.{Caused, HoldsNone}
use Rattle.run_base.specs.Place.{NoneFell, Place as Parts}
use Rattle.run_base.specs.Reading.{AtMostLogMade, AtMostLogWritten}
use Rattle.run_base.specs.declared.status.Status.{Status}
use Rattle.take_run.specs.Ends.{MayHideAsked, MayHideInput}
use Rattle.relay_cli.specs.Runs.{HasRun, NothingDone, OutsideTells, Place, is_on_journal, parts_tell}
use Rattle.relay_cli.specs.declared.command.Command.{Command}

-- Whether a failure of the clock or of the repositories, or authorities that ended, may stand
-- untold: of messages that were taken before, and whose report or rows then failed themselves.
abbrev pub HidesAsked : Command → Status → Type 0
HidesAsked Command.Ingest status = MayHideAsked status
HidesAsked (Command.Follow host count) status = MayHideAsked status
HidesAsked command status = ⊥

-- Whether a failure of the input may: a tape is read ahead of the messages that end the run.
abbrev pub HidesInput : Command → Status → Type 0
HidesInput Command.Ingest status = MayHideInput status
HidesInput command status = ⊥

-- Whether a failure of the output may: what was read before a fault of the journal is still
-- written.
abbrev pub HidesOutput : Command → Status → Type 0
HidesOutput (Command.Replay cursor) Status.Disk = ⊤
HidesOutput (Command.Replay cursor) (Status.BadLog at) = ⊤
HidesOutput command status = ⊥

-- A part that failed, and authorities that ended, are what the status speaks of.
pub record Told (command : Command) (old new : Parts) (status : Status) : Type 0 where
  pub disks : status ≢ Status.Disk
      → (new.failed.one ≡ old.failed.one) × (new.failed.two ≡ old.failed.two)
  pub feed : status ≢ Status.Feed → new.failed.feed ≡ old.failed.feed
  pub door : status ≢ Status.Door → new.failed.door ≡ old.failed.door
  pub wire : status ≢ Status.Wire → new.failed.wire ≡ old.failed.wire
  pub clock : (HidesAsked command status → ⊥) → status ≢ Status.Clock
      → new.failed.clock ≡ old.failed.clock
  pub repos : (HidesAsked command status → ⊥) → status ≢ Status.Repos
      → new.failed.repos ≡ old.failed.repos
  pub unspent : (HidesAsked command status → ⊥) → status ≢ Status.Authority
      → SpendsNone old.around.panel new.around.panel
  pub input : (HidesInput command status → ⊥) → status ≢ Status.ReadFault
      → new.failed.input ≡ old.failed.input
  pub output : (HidesOutput command status → ⊥) → status ≢ Status.WriteFault
      → new.failed.output ≡ old.failed.output

-- A status that speaks of a failure comes only where a count of failures rose, one that speaks of
-- authorities only where all of some method have fallen, and no count falls.
abbrev pub HasCauses : Status → Parts → Parts → Type 0
HasCauses status old new = Caused status old new × NoneFell old.failed new.failed

-- whether a command adds rows to the journal
abbrev pub adds_rows : Command → Bool
adds_rows Command.Ingest = true
adds_rows (Command.Follow host count) = true
adds_rows (Command.Takedown did time) = true
adds_rows (Command.Restore did time) = true
adds_rows (Command.Sync did time) = true
adds_rows command = false

-- whether the row of an operator's command can't have been made
abbrev pub makes_no_row : Status → Bool
makes_no_row Status.Done = false
makes_no_row Status.WriteFault = false
makes_no_row status = true

-- whether a command that ends so only reads the journal
abbrev pub only_reads : Command → Status → Bool
only_reads (Command.Account did) status = true
only_reads Command.Hosts status = true
only_reads (Command.Replay cursor) status = true
only_reads (Command.Serve count) status = true
only_reads (Command.Query count) status = true
only_reads (Command.Lines cursor collection) status = true
only_reads (Command.Takedown did time) status = makes_no_row status
only_reads (Command.Restore did time) status = makes_no_row status
only_reads (Command.Sync did time) status = makes_no_row status
only_reads command status = false

-- What a run of a command does, on disks that are seen so, and which failures it tells.
pub record Ran {D : Type 0} (view : D → View) (t : OutsideTells) (old new : Place) (status : Status)
    (command : Command) : Type 0 where
  pub does : HasRun view t old new status command
  pub told : Told command old.parts new.parts status
  -- unless a disk failed, a command that adds rows leaves the disk that doesn't have the log as it
  -- was, and one that only reads makes a log at most
  pub beside : IsTrue t.disk → adds_rows command ≡ true → status ≢ Status.Disk
      → AtMostLogWritten old.parts.one old.parts.two new.parts.one new.parts.two
  pub only_read : IsTrue t.disk → only_reads command status ≡ true → status ≢ Status.Disk
      → AtMostLogMade old.parts.one old.parts.two new.parts.one new.parts.two
  -- over disks that hold no journal nothing is done
  pub no_journal : HoldsNone (parts_tell t) old.parts → is_on_journal command ≡ true
      → NothingDone old new status
