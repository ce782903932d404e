-- What is owed of the decision of a message, by the relay's state: behind each journal for which it
-- stands (own).
use Rattle.std.specs.Prelude.{◌≡◌, ℕ, ◌+◌, ◌≤◌, List, [], ◌++◌, Bool, Option, None, Result, Ok, Err, IsTrue}
use Rattle.at_authority.specs.Calls.{Call, AreCalls}
use Rattle.at_event.specs.Seen.{Seen}
use Rattle.at_event.specs.declared.frame.Frame.{Frame}
use Rattle.at_event.specs.declared.frame.FrameFault.{FrameFault}
use Rattle.at_event.specs.declared.refusal.Refusal.{Refusal}
use Rattle.relay_row.specs.Folds.{last_seq, seq_in}
use Rattle.relay_row.specs.Journal.{IsJournal}
use Rattle.at_cid.specs.declared.limits.TheConstants.{NUMBERS}
use Rattle.relay_row.specs.declared.row.Row.{Row}
use Rattle.relay_row.specs.declared.taken.Taken.{Taken}
use Rattle.account_state.specs.Folds.{account}
use Rattle.relay_core.specs.Decide.{Checks, Outside, decided_event, passed}
use Rattle.relay_core.specs.Entries.{Holds, cursor_in}
use Rattle.relay_core.specs.Opening.{OpensRight}
use Rattle.relay_core.specs.declared.decision.Pass.{Pass}
use Rattle.relay_core.specs.declared.journal_state.Core.{Core}
use Rattle.relay_law.specs.Right.{LinksRight}
use Rattle.relay_step.specs.Around.{Around, AskedOf, OneAsked, SameRepositories}
use Rattle.relay_step.specs.Asked.{event_calls}
use Rattle.relay_step.specs.Causes.{IsCause, IsSpentFor}
use Rattle.relay_step.specs.Commands.{IsNow}
use Rattle.relay_step.specs.Fetching.{IsFetched}
use Rattle.relay_step.specs.Steps.{Decided, skipped, recorded, Step, IsDecidedAs}
use Rattle.relay_step.specs.declared.decided.Skipped.{Skipped}
use Rattle.relay_step.specs.declared.fault.StepFault.{StepFault}
use Rattle.relay_step.specs.declared.decided.Decided.{Decided as Outcome}

-- why a message that makes no row makes none, as it reads
abbrev pub skipped_as : Result Frame FrameFault → Skipped
skipped_as (Ok (Frame.Event e)) = Skipped.Old e.seq
skipped_as (Ok (Frame.Faulty seq)) = Skipped.Old seq
skipped_as (Ok Frame.Info) = Skipped.Info
skipped_as (Ok Frame.Unknown) = Skipped.Unknown
skipped_as (Ok Frame.Error) = Skipped.Error
skipped_as (Err FrameFault.NoSeq) = Skipped.NoSeq
skipped_as (Err fault) = Skipped.BadFrame

-- what is decided of it
abbrev pub pass_of : Skipped → Pass
pass_of (Skipped.Old seq) = Pass.Old
pass_of Skipped.Unknown = Pass.Unknown
pass_of Skipped.Info = Pass.Info
pass_of Skipped.BadFrame = Pass.Ended
pass_of Skipped.NoSeq = Pass.Ended
pass_of Skipped.Error = Pass.Ended

-- what came of a message of a host that hasn't ended
abbrev pub told_as : Outcome → Decided
told_as (Outcome.Skipped why) = skipped (pass_of why)
told_as (Outcome.Recorded t) = recorded t

-- Where it makes no row, this says why.
abbrev pub IsSkippedAs : Result Frame FrameFault → Outcome → Type 0
IsSkippedAs frame (Outcome.Skipped why) = why ≡ skipped_as frame
IsSkippedAs frame (Outcome.Recorded t) = Unit {0}

-- This is what comes of a host's message, by all checks that open and link rightly.
abbrev pub IsDecided : Core → List ℕ → Result Frame FrameFault → Decided → Type 0
IsDecided c host frame t = (checks : Checks) (J : List Row) → OpensRight checks → LinksRight checks
    → Holds c J → IsDecidedAs checks J [] (host, frame) t

-- This was asked around of a message, as it reads, where this came of it.
abbrev pub IsAskedOf : Bool → Bool → Core → Around → List ℕ → Result Frame FrameFault → Decided
    → Around → Type 0
IsAskedOf clock_tells repos_tell c old host frame t new = (J : List Row) → Holds c J
    → AskedOf clock_tells repos_tell J old host frame t new

-- This was asked around in a step.
abbrev pub IsAsked : Bool → Bool → Core → Around → Step → Around → Type 0
IsAsked clock_tells repos_tell c old s new = (J : List Row) → Holds c J
    → OneAsked clock_tells repos_tell J old s new

-- With these rows a journal is one still.
abbrev pub KeepsJournal : Core → List Row → Type 0
KeepsJournal c rows = (J : List Row) → Holds c J → IsJournal J → IsJournal (J ++ rows)

-- What an event asked around behind the journal J, where these were the answers and this refusal
-- applies, or none.
pub record AskedFor (clock_tells repos_tell : Bool) (J : List Row) (old : Around) (host : List ℕ)
    (e : Seen) (refusal : Option Refusal) (outside : Outside) (new : Around) : Type 0 where
  pub fetch : List Call
  pub fetched : IsFetched repos_tell old.repository J e.did refusal outside.moment outside.fetched
      fetch
  pub made : AreCalls old.panel (event_calls host e refusal fetch) new.panel
  pub now : IsTrue clock_tells → IsNow old.moments outside.moment new.moments
  pub same : IsTrue repos_tell → SameRepositories old.repository new.repository

-- The numbers end: the one behind the last is none, and a message would give it by this row, for
-- answers that were given.
pub record EndsNumbers (clock_tells repos_tell : Bool) (c : Core) (old : Around) (host : List ℕ)
    (frame : Result Frame FrameFault) (new : Around) : Type 0 where
  pub event : Seen
  pub outside : Outside
  pub taken : Taken
  pub is : frame ≡ Ok (Frame.Event event)
  pub above : passed (cursor_in c host) (Frame.Event event) ≡ None
  pub decides : (checks : Checks) (J : List Row) → OpensRight checks → LinksRight checks → Holds c J
      → decided_event checks (last_seq J) (account event.did J) host event outside ≡ taken
  pub asked : (J : List Row) → Holds c J
      → AskedFor clock_tells repos_tell J old host event taken.refusal outside new
  pub gives : seq_in (Row.Taken taken) ≡ c.last + 1
  pub ends : NUMBERS ≤ c.last + 1

-- The cause of a fault in which a message of this frame ends; the repositories and the clock have
-- theirs.
abbrev pub IsFrameCause : Bool → Bool → Core → Around → List ℕ → Result Frame FrameFault → Around
    → Type 0 → Type 0 → StepFault → Type 0
IsFrameCause clock_tells repos_tell core old host frame new repos clock =
    IsCause (EndsNumbers clock_tells repos_tell core old host frame new)
    (IsSpentFor core host frame new.panel) repos clock
