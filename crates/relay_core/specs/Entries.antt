-- What the relay's state tells, and the journals that it stands for.
use Rattle.std.specs.Prelude.{◌≡◌, ℕ, Bool, not, ◌&&◌, ◌==◌, nat_lt, List, Option, option_map}
use Rattle.std.specs.Borrow.{Bor}
use Rattle.std.specs.Option.{is_some, unwrap_or}
use Rattle.relay_row.specs.declared.carried.Carried.{Carried}
use Rattle.relay_row.specs.declared.row.Row.{Row}
use Rattle.relay_row.specs.Folds.{last_seq, seq_in, is_named}
use Rattle.relay_row.specs.Journal.{rises_above}
use Rattle.account_state.specs.Entries.{entry}
use Rattle.account_state.specs.Folds.{fresh, account}
use Rattle.account_state.specs.State.{State, state_of}
use Rattle.account_state.specs.declared.account.Account.{Account}
use Rattle.host_state.specs.Folds.{hosts, cursor_of}
use Rattle.host_state.specs.Table.{listed}
use Rattle.relay_core.specs.declared.journal_state.Core.{Core}
use Rattle.relay_core.specs.Stages.{stage_of, is_start, takes_hosts, takes_accounts}

-- the account that was found, or the one that no row names
abbrev pub state_in : Option (Bor Account) → State
state_in found = unwrap_or (option_map (λ a. state_of a.now) found) fresh

abbrev pub account_in : Core → List ℕ → State
account_in c did = unwrap_or (entry c.accounts did) fresh

abbrev pub cursor_in : Core → List ℕ → ℕ
cursor_in c host = cursor_of (listed c.hosts) host

-- The state is that behind these rows.
pub record Holds (c : Core) (rows : List Row) : Type 0 where
  pub accounts : (did : List ℕ) → account_in c did ≡ account did rows
  pub named : (did : List ℕ) → is_some (entry c.accounts did) ≡ is_named did rows
  pub hosts : listed c.hosts ≡ hosts rows
  pub last : c.last ≡ last_seq rows
  pub stage : c.stage ≡ stage_of rows

-- by the state, a row keeps the order
abbrev pub is_next_in : Core → Row → Bool
is_next_in c (Row.Taken t) = nat_lt (cursor_in c t.host) t.host_seq
    && rises_above c.last (seq_in (Row.Taken t))
is_next_in c (Row.Synced did whole moment) = rises_above c.last whole.seq
is_next_in c (Row.Operated o) = rises_above c.last o.seq
is_next_in c (Row.Carried (Carried.Last seq)) = is_start c.stage
is_next_in c (Row.Carried (Carried.Host host n)) = takes_hosts c.stage && cursor_in c host == 0
is_next_in c (Row.Carried (Carried.Account a)) =
    takes_accounts c.stage && not (is_some (entry c.accounts a.did))
