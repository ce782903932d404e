-- What a journal's soundness asks of the checks of commits, and the right answers to linking a
-- commit.
use Rattle.std.specs.Prelude.{◌≡◌, ◌≢◌, ℕ, List, false, Option, Some, None, Ok}
use Rattle.at_event.specs.Events.{IsEvent}
use Rattle.at_event.specs.Seen.{Seen}
use Rattle.at_event.specs.declared.event.Body.{Body}
use Rattle.at_event.specs.declared.event.CommitEvent.{CommitEvent}
use Rattle.at_event.specs.declared.head.Head.{Head}
use Rattle.at_event.specs.declared.refusal.Refusal.{Refusal}
use Rattle.account_state.specs.declared.repo.Repo.{Repo}
use Rattle.commit_check.specs.Step.{empty_root, is_gap, root_before, Leads}
use Rattle.commit_check.specs.Order.{HoldsCommit, StopsPast}
use Rattle.commit_check.specs.declared.expect.Expect.{Expect}
use Rattle.relay_core.specs.Decide.{Checks}
use Rattle.relay_law.specs.Sound.{GoesFrom}

-- the root from which the next commit of an account has to go
abbrev pub root_expected : Repo → List ℕ
root_expected Repo.Missing = empty_root
root_expected (Repo.Good head) = head.data_root
root_expected (Repo.Lost rev) = empty_root

-- A commit that is linked isn't of a lost account, and goes from the root that was expected to its
-- `data`.
pub record AreRight (checks : Checks) : Type 0 where
  pub not_lost : (e : Seen) (c : CommitEvent) (rev : Option ℕ) → e.body ≡ Body.Commit c
      → checks.links e (Repo.Lost rev) ≢ None
  pub goes : (e : Seen) (c : CommitEvent) (repo : Repo) (last : Option ℕ) (head : Head) → IsEvent e
      → e.body ≡ Body.Commit c → checks.opens e last ≡ Ok head → checks.links e repo ≡ None
      → GoesFrom c (root_expected repo) head.data_root

-- what is expected of the next commit, by what is known of its account's repository
abbrev pub expect_of : Repo → Expect
expect_of Repo.Missing = Expect.Start
expect_of (Repo.Good head) = Expect.After head
expect_of (Repo.Lost rev) = Expect.Lost

-- Linking says what is right of a commit: it passes only where there is no gap and, by the blocks
-- that were read, the commit leads from the root before to its `data`; a refusal is the one that
-- stops it.
pub record LinksRight (checks : Checks) : Type 0 where
  pub no_gap : (e : Seen) (c : CommitEvent) (repo : Repo) → e.body ≡ Body.Commit c
      → checks.links e repo ≡ None → is_gap c (expect_of repo) ≡ false
  pub leads : (e : Seen) (c : CommitEvent) (repo : Repo) (h : HoldsCommit c) → IsEvent e
      → e.body ≡ Body.Commit c → checks.links e repo ≡ None
      → Leads c h.blocks (root_before (expect_of repo)) h.commit.data_root
  pub stops : (e : Seen) (c : CommitEvent) (repo : Repo) (h : HoldsCommit c) (refusal : Refusal)
      → IsEvent e → e.body ≡ Body.Commit c → checks.links e repo ≡ Some refusal
      → StopsPast (is_gap c (expect_of repo)) c h.blocks
      (root_before (expect_of repo)) h.commit.data_root refusal
