-- When a commit has to be accepted, but for what its account's home and its signature say (own).
use Rattle.std.specs.Prelude.{◌≡◌, ℕ, true, false, List, Some, None, Ok, nat_lt}
use Rattle.at_event.specs.Seen.{Seen}
use Rattle.at_event.specs.Writing.{out_length}
use Rattle.at_event.specs.declared.event.Body.{Body}
use Rattle.at_event.specs.declared.event.CommitEvent.{CommitEvent}
use Rattle.at_event.specs.declared.head.Head.{Head}
use Rattle.relay_row.specs.Folds.{cursor}
use Rattle.relay_row.specs.declared.row.Row.{Row}
use Rattle.account_state.specs.Folds.{account, last_rev}
use Rattle.relay_core.specs.Decide.{Checks, is_ahead}
use Rattle.relay_core.specs.declared.limits.TheConstants.{LONGEST_MESSAGE}

-- Behind the journal J, a host's commit event stands above the host's cursor; its account is active
-- and not down; the commit opens, isn't ahead of the moment, and follows what is known of its
-- repository.
pub record IsReady (checks : Checks) (J : List Row) (host : List ℕ) (e : Seen)
    (moment : ℕ) : Type 0 where
  pub commit : CommitEvent
  pub body : e.body ≡ Body.Commit commit
  pub above : nat_lt (cursor host J) e.seq ≡ true
  pub short : nat_lt LONGEST_MESSAGE (out_length e) ≡ false
  pub active : (account e.did J).active ≡ true
  pub up : (account e.did J).down ≡ false
  pub head : Head
  pub opens : checks.opens e (last_rev (account e.did J).repo) ≡ Ok head
  pub near : is_ahead commit.rev (Some moment) ≡ false
  pub links : checks.links e (account e.did J).repo ≡ None
