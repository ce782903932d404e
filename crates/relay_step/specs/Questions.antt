-- What was asked about an event so far, and answered (own).
use Rattle.std.specs.Prelude.{◌≡◌, ◌⊎◌, ℕ, ◌+◌, Bool, true, false, not, ◌&&◌, List, [], ◌∷◌, ◌++◌, Option, Some, None, Result, Ok, Err, IsTrue, nat_le, nat_lt}
use Rattle.at_authority.specs.Calls.{Call, answers, refreshes, AreCalls}
use Rattle.at_authority.specs.Panels.{Panel}
use Rattle.at_authority.specs.Queries.{asks_home}
use Rattle.at_event.specs.Refusals.{code_of}
use Rattle.at_event.specs.Seen.{Seen}
use Rattle.at_event.specs.Writing.{out_length}
use Rattle.at_event.specs.declared.event.Body.{Body}
use Rattle.at_event.specs.declared.event.CommitEvent.{CommitEvent}
use Rattle.at_event.specs.declared.frame.Frame.{Frame}
use Rattle.at_event.specs.declared.head.Head.{Head}
use Rattle.at_event.specs.declared.refusal.Refusal.{Refusal}
use Rattle.event_checks.specs.Lines.{first_of}
use Rattle.event_checks.specs.Table.{field_lines}
use Rattle.account_state.specs.State.{State}
use Rattle.account_state.specs.declared.repo.Repo.{Repo}
use Rattle.commit_check.specs.Order.{HoldsCommit, StopsPast}
use Rattle.commit_check.specs.Step.{is_gap, root_before}
use Rattle.commit_check.specs.Opening.{IsOpened}
use Rattle.repo_sync.specs.Sync.{IsSynced}
use Rattle.relay_core.specs.Answering.{as_result}
use Rattle.relay_core.specs.Decide.{Checks, when, is_ahead}
use Rattle.relay_core.specs.Entries.{account_in, cursor_in}
use Rattle.relay_core.specs.Table.{next_of, no_answers}
use Rattle.relay_core.specs.Laws.{is_open}
use Rattle.relay_core.specs.declared.answers.Answers.{Answers}
use Rattle.relay_core.specs.declared.answers.Question.{Question}
use Rattle.relay_core.specs.declared.decision.Next.{Next}
use Rattle.relay_core.specs.declared.journal_state.Core.{Core}
use Rattle.relay_core.specs.declared.limits.TheConstants.{LONGEST_MESSAGE}
use Rattle.relay_law.specs.Formed.{AreAnswersTo}
use Rattle.relay_law.specs.Right.{LinksRight, expect_of}
use Rattle.relay_step.specs.Asked.{signed_by, verdict_call}
use Rattle.relay_step.specs.Commands.{IsNow}
use Rattle.relay_step.specs.declared.reading.Read.{Read}

abbrev pub refresh_told : List ℕ → Bool → List Call
refresh_told did true = refreshes did ∷ []
refresh_told did false = []

abbrev pub home_told : List ℕ → List ℕ → Option Bool → List Call
home_told did host None = []
home_told did host (Some is_home) = answers (asks_home did host) is_home ∷ []

abbrev pub verdict_told : Seen → Option Bool → List Call
verdict_told e None = []
verdict_told e (Some good) = verdict_call e.did (signed_by e.body) good

-- the calls of the judges, in the order in which they were made
abbrev pub calls_told : List ℕ → Seen → Answers → List Call
calls_told host e x = refresh_told e.did x.refreshed
    ++ (home_told e.did host x.home ++ verdict_told e x.verdict)

-- a moment was taken of the clock, or none
abbrev pub IsTimedSo : List ℕ → Option ℕ → List ℕ → Type 0
IsTimedSo moments None left = left ≡ moments
IsTimedSo moments (Some moment) left = IsNow moments moment left

-- the refusal of an event whose outgoing message is too long
abbrev pub length_line : Seen → Option Refusal
length_line e = when (nat_lt LONGEST_MESSAGE (out_length e)) Refusal.TooLong

-- nothing applies of all that stands before the signature
pub record SkippedBefore (a : State) (e : Seen) (rev : ℕ) (x : Answers) : Type 0 where
  pub short : length_line e ≡ None
  pub home : x.home ≡ Some true
  pub active : when (not a.active) Refusal.Inactive ≡ None
  pub up : when a.down Refusal.TakenDown ≡ None
  pub head : Head
  pub opened : x.opened ≡ Some (Ok head)
  pub near : when (is_ahead rev x.moment) Refusal.FutureRev ≡ None

-- a signature is asked for behind all that stands before it, and of a commit or a sync alone
abbrev pub IsJudgedLate : State → Seen → Body → Answers → Type 0
IsJudgedLate a e (Body.Commit c) x = (x.verdict ≡ None) ⊎ SkippedBefore a e c.rev x
IsJudgedLate a e (Body.Sync s) x = (x.verdict ≡ None) ⊎ SkippedBefore a e s.rev x
IsJudgedLate a e Body.Identity x = x.verdict ≡ None
IsJudgedLate a e (Body.Account b) x = x.verdict ≡ None

-- an identity is looked up anew before its home is asked for, and nothing else is
abbrev pub IsRenewedFirst : Body → Answers → Type 0
IsRenewedFirst (Body.Commit c) x = x.refreshed ≡ false
IsRenewedFirst (Body.Sync s) x = x.refreshed ≡ false
IsRenewedFirst Body.Identity x = (x.refreshed ≡ true) ⊎ (x.home ≡ None)
IsRenewedFirst (Body.Account b) x = x.refreshed ≡ false

pub record NoneAsked (x : Answers) : Type 0 where
  pub refreshed : x.refreshed ≡ false
  pub home : x.home ≡ None
  pub verdict : x.verdict ≡ None

-- Nothing was asked out of the order of the table.
pub record IsTidy (a : State) (e : Seen) (x : Answers) : Type 0 where
  pub early : x.moment ≡ None → x ≡ no_answers
  pub short : (length_line e ≡ None) ⊎ NoneAsked x
  pub late : IsJudgedLate a e e.body x
  pub renewed : IsRenewedFirst e.body x

-- a refusal of a commit that doesn't follow
abbrev pub is_unlinked : Refusal → Bool
is_unlinked r = nat_le 19 (code_of r) && nat_le (code_of r) 23

-- Linking says what is right, by all checks that say it; and a refusal is the one that stops the
-- commit.
pub record IsLinkAnswer (repo : Repo) (e : Seen) (answer : Result (Unit {0}) Refusal) : Type 0 where
  pub right : (checks : Checks) → LinksRight checks → answer ≡ as_result (checks.links e repo)
  pub unlinked : (r : Refusal) → answer ≡ Err r → is_unlinked r ≡ true
  pub stops : (c : CommitEvent) (h : HoldsCommit c) (r : Refusal) → e.body ≡ Body.Commit c
      → answer ≡ Err r
      → StopsPast (is_gap c (expect_of repo)) c h.blocks
      (root_before (expect_of repo)) h.commit.data_root r

abbrev pub is_commit : Body → Bool
is_commit (Body.Commit c) = true
is_commit (Body.Sync s) = false
is_commit Body.Identity = false
is_commit (Body.Account b) = false

-- what was read of an event's blocks
abbrev pub IsReadOf : Body → Read → Type 0
IsReadOf (Body.Commit c) (Read.Commit opened) = IsOpened c opened
    × (first_of (field_lines c) ≡ None)
IsReadOf (Body.Sync s) (Read.Sync found) = (last : Option ℕ) × IsSynced s last found
IsReadOf body read = ⊥

-- the blocks of an event that was opened were read
abbrev pub IsReadFor : Body → Option (Result Head Refusal) → Read → Type 0
IsReadFor body (Some (Ok head)) read = IsReadOf body read
IsReadFor body other read = Unit {0}

-- What was asked about an event: of the judges and the clock this, and all answers are right.
pub record AreAsked (clock_tells : Bool) (last cursor : ℕ) (a : State) (host : List ℕ) (e : Seen)
    (x : Answers) (old : Panel) (moments : List ℕ) (new : Panel) (left : List ℕ) : Type 0 where
  pub calls : AreCalls old (calls_told host e x) new
  pub timed : IsTrue clock_tells → IsTimedSo moments x.moment left
  pub tidy : IsTidy a e x
  pub right : AreAnswersTo last a e x
  pub linked : (answer : Result (Unit {0}) Refusal) → x.linked ≡ Some answer
      → IsLinkAnswer a.repo e answer
  pub unfetched : x.fetched ≡ None
  pub above : (moment : ℕ) → x.moment ≡ Some moment → nat_le e.seq cursor ≡ false

-- and of an event of a host, by what is known of both
abbrev pub AreAskedAbout : Bool → Core → List ℕ → Seen → Answers → Panel → List ℕ → Panel → List ℕ
    → Type 0
AreAskedAbout clock_tells c host e x old moments new left =
    AreAsked clock_tells c.last (cursor_in c host) (account_in c e.did) host e x
    old moments new left

-- what comes next then
abbrev pub next_about : Core → List ℕ → Seen → Answers → Next
next_about c host e x = next_of (cursor_in c host) (account_in c e.did) (Frame.Event e) x

abbrev pub is_fetch : Question → Bool
is_fetch Question.Fetch = true
is_fetch q = false

-- nothing more is asked but for the account's repository
abbrev pub is_last : Next → Bool
is_last (Next.Ask q) = is_fetch q
is_last (Next.Pass pass) = true
is_last (Next.Done d) = true

abbrev pub one_if : Bool → ℕ
one_if true = 1
one_if false = 0

-- how many questions have no answer yet
abbrev pub open_count : Answers → ℕ
open_count x = one_if (is_open Question.Moment x) +
    (one_if (is_open Question.Refresh x) +
    (one_if (is_open Question.Home x) + (one_if (is_open Question.Open x)
    + (one_if (is_open Question.Verdict x) +
    (one_if (is_open Question.Link x) + one_if (is_open Question.Fetch x))))))
