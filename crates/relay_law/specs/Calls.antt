-- What the calls that check events answer, by their contracts, and that checks say the same.
use Rattle.std.specs.Prelude.{◌≡◌, ℕ, List, map, false, Option, Some, None, Result, Ok, Err}
use Rattle.at_event.specs.Events.{IsEvent}
use Rattle.at_event.specs.Frames.{frame_of}
use Rattle.at_event.specs.Seen.{Seen}
use Rattle.at_event.specs.declared.event.Body.{Body}
use Rattle.at_event.specs.declared.event.CommitEvent.{CommitEvent}
use Rattle.at_event.specs.declared.event.SyncEvent.{SyncEvent}
use Rattle.at_event.specs.declared.head.Head.{Head}
use Rattle.at_event.specs.declared.refusal.Refusal.{Refusal}
use Rattle.event_checks.specs.Lines.{first_of}
use Rattle.event_checks.specs.Table.{open_lines}
use Rattle.account_state.specs.declared.repo.Repo.{Repo}
use Rattle.commit_check.specs.Linking.{IsUnlinked}
use Rattle.commit_check.specs.Opening.{IsOpened}
use Rattle.commit_check.specs.Step.{is_gap, root_before, Leads}
use Rattle.commit_check.specs.declared.expect.Expect.{Expect}
use Rattle.commit_check.specs.declared.fault.CheckFault.{CheckFault}
use Rattle.commit_check.specs.declared.opened.Opened.{Opened}
use Rattle.repo_sync.specs.Sync.{IsSyncAnswer}
use Rattle.repo_sync.specs.declared.found.Found.{Found}
use Rattle.relay_core.specs.Decide.{Checks}
use Rattle.relay_core.specs.Runs.{Message}
use Rattle.relay_law.specs.Right.{expect_of}

-- what `open_commit` answers, beside the last revision of the account
abbrev pub IsOpenAnswer : CommitEvent → Option ℕ → Result Opened Refusal → Type 0
IsOpenAnswer c last (Ok opened) = (first_of (open_lines c last) ≡ None) × IsOpened c opened
IsOpenAnswer c last (Err refusal) = first_of (open_lines c last) ≡ Some refusal

-- what `link` answers of a commit that was opened, beside what is expected of it
abbrev pub IsLinkAnswer : CommitEvent → Opened → Expect → Option Refusal → Type 0
IsLinkAnswer c opened expect None = (is_gap c expect ≡ false)
    × Leads c opened.car.blocks (root_before expect) opened.head.data_root
IsLinkAnswer c opened expect (Some refusal) =
    IsUnlinked c opened expect (CheckFault.Refused refusal)

abbrev pub opened_head : Result Opened Refusal → Result Head Refusal
opened_head (Ok opened) = Ok opened.head
opened_head (Err refusal) = Err refusal

abbrev pub found_head : Result Found Refusal → Result Head Refusal
found_head (Ok found) = Ok found.head
found_head (Err refusal) = Err refusal

-- Of each event the checks say what the calls answer: `open_commit` and `link` of a commit,
-- `check_sync` of a `#sync`.
pub record SayWhatCallsAnswer (checks : Checks) : Type 0 where
  pub opens : (e : Seen) (c : CommitEvent) (last : Option ℕ) (answer : Result Opened Refusal)
      → e.body ≡ Body.Commit c → IsOpenAnswer c last answer
      → checks.opens e last ≡ opened_head answer
  pub syncs : (e : Seen) (s : SyncEvent) (last : Option ℕ) (answer : Result Found Refusal)
      → e.body ≡ Body.Sync s → IsSyncAnswer s last answer → checks.opens e last ≡ found_head answer
  pub links : (e : Seen) (c : CommitEvent) (opened : Opened) (repo : Repo) (answer : Option Refusal)
      → IsEvent e → e.body ≡ Body.Commit c → IsOpened c opened
      → IsLinkAnswer c opened (expect_of repo) answer
      → checks.links e repo ≡ answer

-- what hosts sent, each message with its host, as it is read
abbrev pub as_read : List (List ℕ × List ℕ) → List Message
as_read sent = map (λ m. (m.0, frame_of m.1)) sent
