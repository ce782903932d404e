-- An operator's commands: which are refused, and the rows of the others (own).
use Rattle.std.specs.Prelude.{ℕ, ◌+◌, Bool, true, false, not, List, Option, Some, None, codes, if◌then◌else◌}
use Rattle.at_event.specs.Writing.{event_message, account_payload}
use Rattle.at_event.specs.declared.kind.EventKind.{EventKind}
use Rattle.at_event.specs.declared.refusal.Refusal.{Refusal}
use Rattle.relay_row.specs.declared.fetched.Fetched.{Fetched}
use Rattle.relay_row.specs.declared.operated.Operated.{Operated}
use Rattle.account_state.specs.State.{State}
use Rattle.relay_core.specs.Decide.{when}

-- an account is taken down where it isn't, and restored where it is down
abbrev pub operate_refusal : State → Bool → Option Refusal
operate_refusal a true = when a.down Refusal.AlreadyDown
operate_refusal a false = when (not a.down) Refusal.NotDown

-- what goes out of an account that is taken down, and of one that is restored
abbrev pub operated_message : State → Bool → List ℕ → List ℕ → ℕ → List ℕ
operated_message a true did time n = event_message EventKind.Account
    (account_payload did false (Some (codes "takendown")) time n)
operated_message a false did time n = event_message EventKind.Account
    (account_payload did a.active a.status time n)

abbrev pub operated_as : ℕ → State → List ℕ → Bool → List ℕ → Option ℕ → Operated
operated_as last a did down time moment = record {
  did = did;
  down = down;
  seq = last + 1;
  message = operated_message a down did time (last + 1);
  moment = moment;
}

-- a repository is fetched for an account that is active and not down
abbrev pub sync_refusal : State → Option Refusal
sync_refusal a = if a.active then when a.down Refusal.TakenDown else Some Refusal.Inactive

-- and only one that was taken over makes a row
abbrev pub fetch_refusal : Fetched → Option Refusal
fetch_refusal Fetched.NotAsked = Some Refusal.NoRepository
fetch_refusal Fetched.Absent = Some Refusal.NoRepository
fetch_refusal (Fetched.Refused n) = Some (Refusal.RepositoryRefused n)
fetch_refusal (Fetched.Whole w) = None
