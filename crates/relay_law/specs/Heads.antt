-- The heads that events and blocks give.
use Rattle.std.specs.Prelude.{◌≡◌, false, ℕ, List, [], ◌∷◌, None, Ok}
use Rattle.at_car.specs.Blocks.{HasDigestOf}
use Rattle.at_commit.specs.Commit.{commit_of}
use Rattle.at_commit.specs.declared.commit.Commit.{Commit}
use Rattle.at_event.specs.declared.event.Body.{Body}
use Rattle.at_event.specs.declared.event.CommitEvent.{CommitEvent}
use Rattle.at_event.specs.declared.head.Head.{Head}
use Rattle.event_checks.specs.Lines.{first_of}
use Rattle.event_checks.specs.Table.{open_lines}
use Rattle.relay_row.specs.declared.row.Row.{Row}
use Rattle.account_state.specs.Folds.{last_rev}
use Rattle.account_state.specs.declared.repo.Repo.{Repo}
use Rattle.commit_check.specs.Step.{is_gap}
use Rattle.relay_core.specs.Decide.{Found, absent, unfit, found}
use Rattle.relay_core.specs.Opening.{IsHeadOf}
use Rattle.relay_core.specs.Shown.{found_in}
use Rattle.relay_law.specs.Right.{expect_of}

-- A commit gives this head behind what was known of its repository: it shows no refusal, no gap
-- stands before it, and the head is that of the commit object in its blocks.
pub record CommitGives (before : Repo) (head : Head) (c : CommitEvent) : Type 0 where
  pub shown : first_of (open_lines c (last_rev before)) ≡ None
  pub no_gap : is_gap c (expect_of before) ≡ false
  pub gives : IsHeadOf (Body.Commit c) head

-- an event gives a head: a commit so, a `#sync` that of the commit object in its blocks, and no
-- other
abbrev pub GivesHead : Repo → Head → Body → Type 0
GivesHead before head (Body.Commit c) = CommitGives before head c
GivesHead before head (Body.Sync sync) = IsHeadOf (Body.Sync sync) head
GivesHead before head Body.Identity = ⊥
GivesHead before head (Body.Account a) = ⊥

-- A block gives a head: it is read as a commit object with the head's root, and the head's link
-- ends with its digest.
pub record BlockGives (head : Head) (block : List ℕ) : Type 0 where
  pub commit : Commit
  pub reads : commit_of block ≡ Ok commit
  pub data_is : head.data_root ≡ commit.data_root
  pub digest : HasDigestOf head.commit block

-- what was fetched, where it is taken over, is a head that its block gives
abbrev pub FoundGives : Found → Type 0
FoundGives absent = Unit {0}
FoundGives (unfit n) = Unit {0}
FoundGives (found head records block) = BlockGives head block

-- so it is of what each of these rows of messages had fetched
abbrev pub FetchesGive : List Row → Type 0
FetchesGive [] = Unit {0}
FetchesGive (Row.Taken t ∷ rows) = FoundGives (found_in t.fetched) × FetchesGive rows
FetchesGive (Row.Synced did whole moment ∷ rows) = FetchesGive rows
FetchesGive (Row.Operated o ∷ rows) = FetchesGive rows
FetchesGive (Row.Carried c ∷ rows) = FetchesGive rows
