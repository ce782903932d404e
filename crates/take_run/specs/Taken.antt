-- What messages come to that are taken into the journal of two disks (own).
use Rattle.std.specs.Prelude.{◌≡◌, ◌≢◌, ◌≤◌, ⊤, ℕ, List, [], ◌∷◌, ◌++◌, length}
use Rattle.relay_disk.specs.Moments.{PairLeavesOnly}
use Rattle.relay_row.specs.Journal.{IsJournal}
use Rattle.relay_row.specs.declared.row.Row.{Row}
use Rattle.relay_core.specs.Decide.{Checks}
use Rattle.relay_core.specs.Opening.{OpensRight}
use Rattle.relay_core.specs.Report.{end_line}
use Rattle.relay_law.specs.Faithful.{IsFaithfulJournal}
use Rattle.relay_law.specs.Right.{LinksRight}
use Rattle.relay_law.specs.Sound.{IsSound}
use Rattle.relay_step.specs.Around.{Around, AllAsked, AskedNothing}
use Rattle.relay_step.specs.Steps.{Step, AreSteps, messages, rows}
use Rattle.store_take.specs.Batches.{AsksBehind, messages_sent}
use Rattle.relay_store.specs.Opening.{IsOfReading}
use Rattle.relay_store.specs.Pairs.{IsOneOfPair}
use Rattle.relay_store.specs.Room.{PairHasNoRoom}
use Rattle.relay_store.specs.declared.fault.StoreFault.{StoreFault}
use Rattle.store_take.specs.declared.message.Message.{Message}
use Rattle.run_base.specs.Deeds.{Deed, OnDisks, reads}
use Rattle.run_base.specs.Ends.{ToldBut}
use Rattle.run_base.specs.Place.{Place, Tells}
use Rattle.run_base.specs.Statuses.{status_of_fault}
use Rattle.run_base.specs.declared.status.Status.{Status}
use Rattle.take_run.specs.Covered.{CoveredGetThrough}
use Rattle.take_run.specs.Crashes.{IsPairOnTheWay}
use Rattle.take_run.specs.Ends.{IsOfSource, MayLeave, StopsShort}
use Rattle.take_run.specs.Lines.{lines_of}
use Rattle.take_run.specs.NextMessage.{NextEnds}
use Rattle.take_run.specs.Tapes.{AreRecords}

-- The steps that messages came to after the journal J, where these hosts had ended.
pub record StepsTaken (t : Tells) (J : List Row) (ended : List (List ℕ)) (old new : Place)
    (status : Status) : Type 0 where
  -- the steps that are answered, those of a body that was under way when a disk failed, one whose
  -- row is in no body, and the messages that were read and not taken
  pub steps : List Step
  pub under : List Step
  pub extra : List Step
  pub behind : List Message
  -- a log that is open isn't bad
  pub good : (place : ℕ) → status ≢ Status.BadLog place
  pub which_under : status ≢ Status.Disk → under ≡ []
  pub few_extra : length extra ≤ 1
  pub which_extra : (MayLeave status → ⊥) → extra ≡ []
  pub all : IsOfSource status → behind ≡ []
  -- each is what comes of its message after the rows before it
  pub are : (checks : Checks) → OpensRight checks → LinksRight checks
      → AreSteps checks J ended (steps ++ (under ++ extra))
  pub journal : IsJournal (J ++ rows (steps ++ (under ++ extra)))
  -- What was asked: of each step what it shows, and for one more message, where no step is left
  -- over, what came to nothing. Where the messages had come to their end nothing more was.
  pub mid : Around
  pub asked : AllAsked t.clock t.repos J old.around (steps ++ (under ++ extra)) mid
  pub stops : AsksBehind t.clock t.repos extra behind mid new.around
  pub still : IsOfSource status → AskedNothing t.clock t.repos mid new.around
  pub next : NextEnds t (J ++ rows steps) behind mid new.around status
  -- who is asked failed only where that ended it, unless it stopped short
  pub told : ToldBut (StopsShort t.output status steps under behind old.written new.written) ⊥
      status old new

abbrev pub all_steps : {t : Tells} {J : List Row} {ended : List (List ℕ)} {old new : Place}
    {status : Status} → StepsTaken t J ended old new status → List Step
all_steps s = s.steps ++ (s.under ++ s.extra)

-- all messages that were read
abbrev pub all_read : {t : Tells} {J : List Row} {ended : List (List ℕ)} {old new : Place}
    {status : Status} → StepsTaken t J ended old new status → List Message
all_read s = messages_sent (all_steps s) ++ s.behind

-- the rows of all steps are meant, those of the answered ones stand on the disks at the end, and a
-- line is written for each of those, and a last one
abbrev pub takes : {t : Tells} {J : List Row} {ended : List (List ℕ)} {old new : Place}
    {status : Status} → StepsTaken t J ended old new status → Deed
takes {J = J} s = record {
  meant = J ++ rows (all_steps s);
  sound_by = ⊤;
  after = J ++ rows s.steps;
  way = λ one one_now two two_now.
      PairLeavesOnly (IsPairOnTheWay J (rows s.steps) (rows s.under)) one one_now two two_now;
  lines = lines_of s.steps;
  last = end_line J (messages s.steps) (rows s.steps);
}

-- What the steps come to on two disks.
pub record Took (t : Tells) (most : ℕ) (J : List Row) (old new : Place) (status : Status)
    (s : StepsTaken t J [] old new status) : Type 0 where
  pub records : AreRecords (all_read s)
  pub does : OnDisks t most J ⊤ (takes s) old new status
  -- at the end a crash leaves all rows, with those of the body under way or without
  pub left : (c d : List ℕ) → new.one.may_leave c → new.two.may_leave d
      → IsOneOfPair (J ++ rows s.steps) (rows s.under) c d
  -- the log is full only where it has no room for the row of the step left over
  pub full : (e : ℕ) → status ≡ Status.Full e → (row : Row) × (rows s.extra ≡ row ∷ [])
      × PairHasNoRoom most (J ++ rows s.steps) row e new.one.content new.two.content
  -- with the rows of any of the steps in front a sound journal stays sound, and a faithful one
  -- faithful; and a covered commit gets through
  pub sound : (front others : List Step) → all_steps s ≡ front ++ others → IsSound J
      → IsSound (J ++ rows front)
  pub faithful : (front others : List Step) → all_steps s ≡ front ++ others
      → IsFaithfulJournal J → IsFaithfulJournal (J ++ rows front)
  pub covered : CoveredGetThrough J (all_steps s)

-- The disks weren't opened, and are read alone.
pub record Unopened (t : Tells) (most : ℕ) (J : List Row) (old new : Place) (status : Status)
    : Type 0 where
  pub fault : StoreFault
  pub is : status ≡ status_of_fault fault
  pub of_reading : IsOfReading fault
  pub does : OnDisks t most J ⊥ (reads J []) old new status
