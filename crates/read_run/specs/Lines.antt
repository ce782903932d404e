-- The lines of the events above a number (own).
use Rattle.std.specs.Prelude.{◌≡◌, ◌≢◌, ℕ, Bool, List, ◌++◌, Option, IsTrue}
use Rattle.std.specs.List.{flat_map}
use Rattle.at_event.specs.Frames.{frame_of}
use Rattle.event_window.specs.Held.{Event, Held}
use Rattle.relay_row.specs.declared.row.Row.{Row}
use Rattle.relay_store.specs.Shown.{held_by}
use Rattle.backfill.specs.Served.{rising_above}
use Rattle.json_lines.specs.Lines.{lines_read}
use Rattle.run_base.specs.Place.{Place, Tells}
use Rattle.run_base.specs.declared.status.Status.{Status}
use Rattle.read_run.specs.OnRead.{OnRead}

-- the lines of each of these events
abbrev pub lines_in : Option (List ℕ) → List Event → List ℕ
lines_in collection events = flat_map (λ e. lines_read collection (frame_of e.1)) events

-- the lines of each event above a number
abbrev pub lines_above : Option (List ℕ) → ℕ → List Event → List ℕ
lines_above collection seq events = lines_in collection (rising_above seq events)

-- Of the events above one number the lines of those up to another one were written, and no line of
-- the others.
pub record AddsLines (collection : Option (List ℕ)) (events : List Event) (seq upto : ℕ)
    (old new : List ℕ) : Type 0 where
  pub written : List Event
  pub split : rising_above seq events ≡ written ++ rising_above upto events
  pub bytes : new ≡ old ++ lines_in collection written

-- The lines of the events above a number are those that were written and what is left of them.
pub record AreLines (tells : Bool) (held : Held) (collection : Option (List ℕ)) (cursor : ℕ)
    (old new : List ℕ) (status : Status) : Type 0 where
  pub lines : List ℕ
  pub last : List ℕ
  pub split : lines_above collection cursor held.shown ≡ lines ++ last
  -- unless the output failed, no line was written in part
  pub whole : IsTrue tells → status ≢ Status.WriteFault → (n : ℕ)
      × AddsLines collection held.shown cursor n old new

-- Those of the journal J of two disks were written: all of them where it was done, and else a
-- front.
pub record LinesWritten (t : Tells) (most : ℕ) (J : List Row) (collection : Option (List ℕ))
    (cursor : ℕ) (old new : Place) (status : Status) : Type 0 where
  pub are : AreLines t.output (held_by J) collection cursor old.written new.written status
  pub does : OnRead t most J are.lines are.last old new status
