-- What taking a tape or a host's feed into the journal of two disks does (own).
use Rattle.std.specs.Prelude.{◌≡◌, ◌≢◌, ℕ, Bool, List, [], IsTrue}
use Rattle.relay_row.specs.Folds.{cursor}
use Rattle.relay_row.specs.declared.row.Row.{Row}
use Rattle.run_base.specs.Place.{Place, Tells}
use Rattle.run_base.specs.declared.status.Status.{Status}
use Rattle.take_run.specs.Ends.{StopsBefore, StopsShort}
use Rattle.take_run.specs.Feeds.{IsOnFeed}
use Rattle.take_run.specs.Taken.{StepsTaken, Took, all_read}
use Rattle.take_run.specs.Tapes.{IsOnTape}

-- what is left of an input, and how often it has failed
pub record Input : Type 0 where
  pub left : List ℕ
  pub faults : ℕ

abbrev pub input_at : List ℕ → ℕ → Input
input_at left faults = record { left = left; faults = faults }

-- The input failed only where that ended it, unless it stopped before what was read was done with.
abbrev pub IsInputTold : {t : Tells} {J : List Row} {old new : Place} {status : Status}
    → StepsTaken t J [] old new status → Input → Input → Type 0
IsInputTold {t = t} {old = old} {new = new} {status = status} s before after =
    (StopsBefore status
    (StopsShort t.output status s.steps s.under s.behind old.written new.written)
    s.under s.extra s.behind → ⊥)
    → status ≢ Status.ReadFault → after.faults ≡ before.faults

-- A tape, of which at most `limit` bytes may be taken, was taken into the journal J of two disks,
-- and ended so.
pub record Ingested (t : Tells) (input_tells : Bool) (most limit : ℕ) (J : List Row)
    (old new : Place) (before after : Input) (status : Status) : Type 0 where
  pub taken : StepsTaken t J [] old new status
  pub took : Took t most J old new status taken
  -- the messages that were read are the records at the front of the input
  pub from : IsTrue input_tells → IsOnTape limit before.left after.left (all_read taken) status
  pub told : IsInputTold taken before after

-- Messages of a host's feed were taken into the journal J of two disks, `count` at most, and ended
-- so: they are those in front of what the feed gives of the host after its cursor.
pub record Followed (t : Tells) (feed_tells : Bool) (host : List ℕ) (most count : ℕ) (J : List Row)
    (old new : Place) (given : ℕ → List (List ℕ)) (left : List (List ℕ)) (status : Status)
    : Type 0 where
  pub taken : StepsTaken t J [] old new status
  pub took : Took t most J old new status taken
  pub feed : IsOnFeed feed_tells host count (given (cursor host J)) left taken
