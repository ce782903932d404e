-- When a commit has to be accepted, in terms of maps: its operations play, and its blocks hold
-- their cover.
use Rattle.std.specs.Prelude.{◌≡◌, ℕ, true, false, List, Some, None, nat_lt}
use Rattle.at_event.specs.Seen.{Seen}
use Rattle.at_event.specs.Writing.{out_length}
use Rattle.at_event.specs.declared.event.Body.{Body}
use Rattle.at_event.specs.declared.event.CommitEvent.{CommitEvent}
use Rattle.event_checks.specs.Lines.{first_of}
use Rattle.event_checks.specs.Table.{open_lines}
use Rattle.relay_row.specs.Folds.{cursor}
use Rattle.relay_row.specs.declared.row.Row.{Row}
use Rattle.account_state.specs.Folds.{account, last_rev}
use Rattle.commit_check.specs.Order.{HoldsCommit}
use Rattle.commit_check.specs.Step.{edits_of, is_gap, root_before, IsCoveredBy}
use Rattle.relay_core.specs.Decide.{is_ahead}
use Rattle.relay_core.specs.declared.limits.TheConstants.{LONGEST_MESSAGE}
use Rattle.relay_law.specs.Right.{expect_of}

-- Behind the journal J, a host's commit event stands above the host's cursor; its account is active
-- and not down; it shows no refusal by itself and isn't ahead of the moment; there is no gap before
-- it; and its operations play from a map with the root that is expected to one with its `data` as
-- root, whose cover its blocks hold.
pub record IsCovered (J : List Row) (host : List ℕ) (e : Seen) (moment : ℕ) : Type 0 where
  pub commit : CommitEvent
  pub body : e.body ≡ Body.Commit commit
  pub above : nat_lt (cursor host J) e.seq ≡ true
  pub short : nat_lt LONGEST_MESSAGE (out_length e) ≡ false
  pub active : (account e.did J).active ≡ true
  pub up : (account e.did J).down ≡ false
  pub shown : first_of (open_lines commit (last_rev (account e.did J).repo)) ≡ None
  pub near : is_ahead commit.rev (Some moment) ≡ false
  pub no_gap : is_gap commit (expect_of (account e.did J).repo) ≡ false
  pub holds : HoldsCommit commit
  pub covered : IsCoveredBy (edits_of commit) holds.blocks
      (root_before (expect_of (account e.did J).repo)) holds.commit.data_root
