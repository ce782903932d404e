-- What a replay of two disks does (own).
use Rattle.std.specs.Prelude.{◌≡◌, ◌≢◌, ◌⊎◌, false, ℕ, Bool, List, ◌++◌, Some, IsTrue}
use Rattle.at_cid.specs.Counts.{Rose}
use Rattle.event_window.specs.Held.{Held}
use Rattle.relay_disk.specs.Disk.{View}
use Rattle.relay_disk.specs.Moments.{PairLeavesOnly}
use Rattle.relay_row.specs.declared.row.Row.{Row}
use Rattle.relay_store.specs.Journals.{IsPairImageOf}
use Rattle.relay_store.specs.Shown.{held_by}
use Rattle.relay_store.specs.Pairs.{StandsFor}
use Rattle.backfill.specs.Served.{served, served_events}
use Rattle.backfill.specs.Writing.{AddsMessages, has_long, with_length}
use Rattle.run_base.specs.Place.{Place, Tells}
use Rattle.run_base.specs.declared.status.Status.{Status}
use Rattle.read_run.specs.OnRead.{OnRead}

-- The two disks stand for the journal J again.
pub record StandAgain (J : List Row) (opened : Type 0) (one two one_now two_now : View)
    : Type 0 where
  -- so they do once they were opened, and where they stood for it before
  pub stands : opened ⊎ StandsFor J one two → StandsFor J one_now two_now
  -- and where they did, whatever moments a crash strikes the two at, it leaves the journal
  pub crashes : StandsFor J one two → PairLeavesOnly (IsPairImageOf J) one one_now two two_now

-- The messages that a guest with this cursor is sent, each after its length, are what was written
-- and what is left of them. The output may have failed.
pub record IsReplay (tells : Bool) (failed : Type 0) (held : Held) (cursor : ℕ)
    (old new : List ℕ) (status : Status) : Type 0 where
  pub lines : List ℕ
  pub last : List ℕ
  pub split : with_length (served held (Some cursor)) ≡ lines ++ last
  -- unless the output failed, or memory ran out, no message was written in part
  pub unbroken : IsTrue tells → status ≢ Status.WriteFault → status ≢ Status.Memory
      → AddsMessages (served held (Some cursor)) old new ⊎ failed

-- The messages of the journal J of two disks were written: all of them where it was done, and else
-- a front.
pub record Replayed (t : Tells) (most : ℕ) (J : List Row) (cursor : ℕ) (old new : Place)
    (status : Status) : Type 0 where
  pub replay : IsReplay t.output (Rose old.failed.output new.failed.output) (held_by J) cursor
      old.written new.written status
  pub does : OnRead t most J replay.lines replay.last old new status
  -- four bytes say the length of each message
  pub short : has_long (served_events (held_by J) (Some cursor)) ≡ false
