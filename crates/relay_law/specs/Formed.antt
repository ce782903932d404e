-- What frames, answers and fetches owe the rows that are made of them.
use Rattle.std.specs.Prelude.{◌≡◌, ⊤, ℕ, ◌+◌, ◌<◌, List, true, Option, Some, None, Result, Ok, Err}
use Rattle.at_event.specs.Events.{IsEvent}
use Rattle.at_event.specs.Seen.{Seen}
use Rattle.at_event.specs.declared.event.Body.{Body}
use Rattle.at_event.specs.declared.event.CommitEvent.{CommitEvent}
use Rattle.at_event.specs.declared.frame.Frame.{Frame}
use Rattle.at_event.specs.declared.head.Head.{Head}
use Rattle.at_event.specs.declared.refusal.Refusal.{Refusal}
use Rattle.relay_row.specs.Rules.{is_head, is_message, is_repo_number}
use Rattle.relay_row.specs.declared.fetched.Fetched.{Fetched}
use Rattle.relay_row.specs.declared.fetched.Whole.{Whole}
use Rattle.at_cid.specs.declared.limits.TheConstants.{NUMBERS}
use Rattle.account_state.specs.Folds.{last_rev}
use Rattle.account_state.specs.State.{State}
use Rattle.commit_check.specs.Order.{HoldsCommit, StopsPast}
use Rattle.commit_check.specs.Step.{is_gap, root_before}
use Rattle.relay_core.specs.Decide.{Found, absent, unfit, found, Outside, sync_message}
use Rattle.relay_core.specs.Opening.{IsHeadOf, shown_alone}
use Rattle.relay_core.specs.declared.answers.Answers.{Answers}
use Rattle.relay_law.specs.Right.{expect_of}

-- a frame as it is read: an event is read from its payload, and one with a bad field has its number
abbrev pub IsReadFrame : Frame → Type 0
IsReadFrame (Frame.Event e) = IsEvent e
IsReadFrame (Frame.Faulty seq) = seq < NUMBERS
IsReadFrame Frame.Info = ⊤
IsReadFrame Frame.Error = ⊤
IsReadFrame Frame.Unknown = ⊤

-- a repository that was taken over, under the number behind the last one
pub record IsWholeBehind (last : ℕ) (w : Whole) : Type 0 where
  pub seq : w.seq ≡ last + 1
  pub head : is_head w.head ≡ true
  pub records : w.records < NUMBERS
  pub message : is_message w.message ≡ true

-- what a fetch came to, where one was made
abbrev pub IsFetchedBehind : ℕ → Fetched → Type 0
IsFetchedBehind last Fetched.NotAsked = ⊥
IsFetchedBehind last Fetched.Absent = ⊤
IsFetchedBehind last (Fetched.Refused n) = is_repo_number true n ≡ true
IsFetchedBehind last (Fetched.Whole w) = IsWholeBehind last w

-- the right answer to opening an event: the first refusal that it shows by itself, or the head that
-- its blocks give its repository
abbrev pub IsOpenedAs : Body → Option ℕ → Result Head Refusal → Type 0
IsOpenedAs body last (Ok head) = (shown_alone body last ≡ None) × IsHeadOf body head
IsOpenedAs body last (Err r) = shown_alone body last ≡ Some r

-- The answers to an event so far, of its account and behind the last number: the moment is a
-- number; opening and linking say what is right; and a fetch came to what a row may keep.
pub record AreAnswersTo (last : ℕ) (a : State) (e : Seen) (x : Answers) : Type 0 where
  pub moment : (m : ℕ) → x.moment ≡ Some m → m < NUMBERS
  pub opened : (answer : Result Head Refusal) → x.opened ≡ Some answer
      → IsOpenedAs e.body (last_rev a.repo) answer
  pub linked : (c : CommitEvent) (h : HoldsCommit c) (r : Refusal) → e.body ≡ Body.Commit c
      → x.linked ≡ Some (Err r) → StopsPast (is_gap c (expect_of a.repo)) c h.blocks
      (root_before (expect_of a.repo)) h.commit.data_root r
  pub fetched : (f : Fetched) → x.fetched ≡ Some f → IsFetchedBehind last f

-- The same of the answers to a message. Of a bad event, the moment alone is asked.
abbrev pub AreAnswersFor : ℕ → State → Frame → Answers → Type 0
AreAnswersFor last a (Frame.Event e) x = AreAnswersTo last a e x
AreAnswersFor last a (Frame.Faulty seq) x = (m : ℕ) → x.moment ≡ Some m → m < NUMBERS
AreAnswersFor last a Frame.Info x = ⊤
AreAnswersFor last a Frame.Error x = ⊤
AreAnswersFor last a Frame.Unknown x = ⊤

-- what a fetch finds of an account at a time, before it has the number behind the last one
abbrev pub IsFormedFound : ℕ → List ℕ → List ℕ → Found → Type 0
IsFormedFound last did time absent = ⊤
IsFormedFound last did time (unfit n) = is_repo_number true n ≡ true
IsFormedFound last did time (found head records block) = (is_head head ≡ true) × (records < NUMBERS)
    × (is_message (sync_message did time head block (last + 1)) ≡ true)

-- the answers from outside to a message: the moment is a number, and a fetch for an event finds
-- what a row may keep
abbrev pub AreFormedFor : ℕ → Frame → Outside → Type 0
AreFormedFor last (Frame.Event e) o = (o.moment < NUMBERS)
    × IsFormedFound last e.did e.time o.fetched
AreFormedFor last other o = o.moment < NUMBERS
