-- What an event came to, and all that was asked about it (own).
use Rattle.std.specs.Prelude.{◌≡◌, ℕ, ◌+◌, ◌<◌, ◌≤◌, Bool, true, false, List, [], ◌++◌, Option, Some, None, Result, Ok, IsTrue, nat_le}
use Rattle.at_authority.specs.Calls.{Call, AreCalls}
use Rattle.at_authority.specs.Panels.{Panel}
use Rattle.at_event.specs.Seen.{Seen}
use Rattle.at_event.specs.declared.frame.Frame.{Frame}
use Rattle.at_event.specs.declared.head.Head.{Head}
use Rattle.at_event.specs.declared.refusal.Refusal.{Refusal}
use Rattle.at_event.specs.Refusals.{code_of}
use Rattle.relay_row.specs.Rules.{loses}
use Rattle.relay_row.specs.declared.fetched.Fetched.{Fetched}
use Rattle.at_cid.specs.declared.limits.TheConstants.{NUMBERS}
use Rattle.relay_row.specs.declared.taken.Taken.{Taken}
use Rattle.account_state.specs.Folds.{last_rev}
use Rattle.account_state.specs.State.{State}
use Rattle.relay_core.specs.Answering.{event_taken, goes_out}
use Rattle.relay_core.specs.Decide.{Found, absent, fetched_as, is_found, passed}
use Rattle.relay_core.specs.Entries.{account_in, cursor_in}
use Rattle.relay_core.specs.Rows.{faulty_taken}
use Rattle.relay_core.specs.Sending.{IsSendable}
use Rattle.relay_core.specs.Shown.{or_zero}
use Rattle.relay_core.specs.declared.answers.Answers.{Answers}
use Rattle.relay_core.specs.declared.decision.Decision.{Decision}
use Rattle.relay_core.specs.declared.decision.Next.{Next}
use Rattle.relay_core.specs.declared.journal_state.Core.{Core}
use Rattle.relay_law.specs.Formed.{AreAnswersTo, IsFetchedBehind, IsOpenedAs}
use Rattle.relay_step.specs.Around.{Around, AskedNothing, SameRepositories}
use Rattle.relay_step.specs.Fetching.{AnsweredFetch, IsFetchedAs, told_where}
use Rattle.relay_step.specs.Messages.{pass_of, skipped_as}
use Rattle.relay_step.specs.Questions.{IsLinkAnswer, IsTidy, IsTimedSo, calls_told, next_about}
use Rattle.relay_step.specs.Commands.{IsNow}
use Rattle.relay_step.specs.declared.decided.Decided.{Decided as Outcome}

-- a fetch that was made for an event, whose refusal loses its account
pub record IsFetchOf (repos_tell : Bool) (last : ℕ) (a : State) (e : Seen)
    (repository : List ℕ → Option (List ℕ)) (moment : ℕ) (refusal : Option Refusal)
    (fetched : Fetched) (what : Found) (fetch : List Call) : Type 0 where
  pub lost : Refusal
  pub refused : refusal ≡ Some lost
  pub due : loses (code_of lost) ≡ true
  pub is : fetched ≡ fetched_as last e what
  pub told : IsFetchedAs (told_where repos_tell (repository e.did)) e.did
      (last_rev a.repo) moment what fetch

abbrev pub IsFetchedSo : Bool → ℕ → State → Seen → (List ℕ → Option (List ℕ)) → ℕ → Option Refusal
    → Option Fetched → Found → List Call → Type 0
IsFetchedSo repos_tell last a e repository moment refusal None what fetch =
    (what ≡ absent) × (fetch ≡ [])
IsFetchedSo repos_tell last a e repository moment refusal (Some fetched) what fetch =
    IsFetchOf repos_tell last a e repository moment refusal fetched what fetch

-- this was decided of an event, and asked, for these answers and what was fetched
pub record EventAnswered (clock_tells repos_tell : Bool) (c : Core) (host : List ℕ) (e : Seen)
    (x : Answers) (d : Decision) (what : Found) (old new : Around) : Type 0 where
  pub fetch : List Call
  pub done : next_about c host e x ≡ Next.Done d
  pub fetched : IsFetchedSo repos_tell c.last (account_in c e.did) e old.repository
      (or_zero x.moment) d.refusal x.fetched what fetch
  pub calls : AreCalls old.panel (calls_told host e x ++ fetch) new.panel
  pub tidy : IsTidy (account_in c e.did) e x
  pub opened : (answer : Result Head Refusal) → x.opened ≡ Some answer
      → IsOpenedAs e.body (last_rev (account_in c e.did).repo) answer
  pub linked : (answer : Result (Unit {0}) Refusal) → x.linked ≡ Some answer
      → IsLinkAnswer (account_in c e.did).repo e answer
  pub timed : IsTrue clock_tells → IsTimedSo old.moments x.moment new.moments
  pub same : IsTrue repos_tell → SameRepositories old.repository new.repository

-- an event was decided, and made this row
pub record EventRecorded (clock_tells repos_tell : Bool) (c : Core) (host : List ℕ) (e : Seen)
    (t : Taken) (old new : Around) : Type 0 where
  pub x : Answers
  pub d : Decision
  pub what : Found
  pub answered : EventAnswered clock_tells repos_tell c host e x d what old new
  pub taken : t ≡ event_taken c.last host e d x
  pub number : goes_out d.refusal d.held ≡ true → c.last + 1 < NUMBERS
  pub sendable : IsSendable c.last e what
  pub right : AreAnswersTo c.last (account_in c e.did) e x

abbrev pub EventDecided : Bool → Bool → Core → List ℕ → Seen → Outcome → Around → Around → Type 0
EventDecided clock_tells repos_tell c host e (Outcome.Skipped why) old new =
    (why ≡ skipped_as (Ok (Frame.Event e)))
    × (passed (cursor_in c host) (Frame.Event e) ≡ Some (pass_of why))
    × AskedNothing clock_tells repos_tell old new
EventDecided clock_tells repos_tell c host e (Outcome.Recorded t) old new =
    EventRecorded clock_tells repos_tell c host e t old new

-- what came of an account's fetch, and of the event that was to wait for it
pub record LostRecorded (repos_tell : Bool) (c : Core) (host : List ℕ) (e : Seen) (x : Answers)
    (told : Outcome) (old : Panel) (repository : List ℕ → Option (List ℕ))
    (new : Panel) : Type 0 where
  pub f : Fetched
  pub d : Decision
  pub what : Found
  pub fetch : List Call
  pub done : next_about c host e (record x { fetched = Some f }) ≡ Next.Done d
  pub taken : told ≡ Outcome.Recorded (event_taken c.last host e d (record x { fetched = Some f }))
  pub number : goes_out d.refusal d.held ≡ true → c.last + 1 < NUMBERS
  pub sendable : IsSendable c.last e what
  pub fetched : IsFetchOf repos_tell c.last (account_in c e.did) e repository
      (or_zero x.moment) d.refusal f what fetch
  pub behind : IsFetchedBehind c.last f
  pub calls : AreCalls old fetch new

-- the numbers end behind an account's fetch, which found a repository that would be taken over
pub record LostEnds (repos_tell : Bool) (c : Core) (e : Seen) (x : Answers) (old : Panel)
    (repository : List ℕ → Option (List ℕ)) (new : Panel) : Type 0 where
  pub what : Found
  pub whole : is_found what ≡ true
  pub fetch : AnsweredFetch (told_where repos_tell (repository e.did)) e.did
      (last_rev (account_in c e.did).repo) (or_zero x.moment) old what new
  pub ends : NUMBERS ≤ c.last + 1

-- an event with a bad field
pub record FaultyRecorded (clock_tells : Bool) (c : Core) (host : List ℕ) (frame : Frame)
    (t : Taken) (moments left : List ℕ) : Type 0 where
  pub seq : ℕ
  pub moment : ℕ
  pub is : frame ≡ Frame.Faulty seq
  pub above : nat_le seq (cursor_in c host) ≡ false
  pub number : moment < NUMBERS
  pub taken : t ≡ faulty_taken host seq (Some moment)
  pub timed : IsTrue clock_tells → IsNow moments moment left

-- what came of a message that is no event
abbrev pub OtherDecided : Bool → Core → List ℕ → Frame → Outcome → List ℕ → List ℕ → Type 0
OtherDecided clock_tells c host frame (Outcome.Skipped why) moments left =
    (why ≡ skipped_as (Ok frame)) × (passed (cursor_in c host) frame ≡ Some (pass_of why))
    × (IsTrue clock_tells → left ≡ moments)
OtherDecided clock_tells c host frame (Outcome.Recorded t) moments left =
    FaultyRecorded clock_tells c host frame t moments left

abbrev pub is_event : Frame → Bool
is_event (Frame.Event e) = true
is_event (Frame.Faulty seq) = false
is_event Frame.Info = false
is_event Frame.Error = false
is_event Frame.Unknown = false
