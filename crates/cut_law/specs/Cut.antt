-- What cutting a journal leaves: its events up to a number are let go, and what the rows up to the
-- last of these came to is carried over (own).
use Rattle.std.specs.Prelude.{◌≡◌, ℕ, ◌≤◌, Bool, true, List, [], ◌∷◌, ◌++◌, map, nat_le, ◌==◌, if◌then◌else◌}
use Rattle.std.specs.List.{list_any}
use Rattle.relay_row.specs.Folds.{events_in, last_seq}
use Rattle.relay_row.specs.declared.carried.Carried.{Carried}
use Rattle.relay_row.specs.declared.carried.CarriedRepo.{CarriedRepo}
use Rattle.relay_row.specs.declared.row.Row.{Row}
use Rattle.account_state.specs.Dids.{dids}
use Rattle.account_state.specs.Folds.{account}
use Rattle.account_state.specs.State.{State}
use Rattle.account_state.specs.declared.repo.Repo.{Repo}
use Rattle.host_state.specs.Folds.{hosts}

-- the row sends out an event numbered at most c
abbrev pub is_old : ℕ → Row → Bool
is_old c row = list_any (λ event. nat_le event.0 c) (events_in row)

-- one of the rows does
abbrev pub have_old : ℕ → List Row → Bool
have_old c rows = list_any (is_old c) rows

-- the front of a journal: its rows up to the last one that does
abbrev pub carried_front : ℕ → List Row → List Row
carried_front c [] = []
carried_front c (row ∷ rows) = if have_old c (row ∷ rows) then row ∷ carried_front c rows else []

-- the rows behind the front
abbrev pub rows_behind_front : ℕ → List Row → List Row
rows_behind_front c [] = []
rows_behind_front c (row ∷ rows) = if have_old c (row ∷ rows) then rows_behind_front c rows else row
    ∷ rows

-- a row for each of these hosts whose cursor is positive
abbrev pub host_rows : List (List ℕ × ℕ) → List Row
host_rows [] = []
host_rows (host ∷ others) = if host.1 == 0 then host_rows others
    else Row.Carried (Carried.Host host.0 host.1) ∷ host_rows others

abbrev pub repo_over : Repo → CarriedRepo
repo_over Repo.Missing = CarriedRepo.Missing
repo_over (Repo.Good head) = CarriedRepo.Good head
repo_over (Repo.Lost rev) = CarriedRepo.Lost rev

-- the row that carries an account over
abbrev pub account_row : List ℕ → State → Row
account_row did a = Row.Carried (Carried.Account (record {
  did = did;
  active = a.active;
  status = a.status;
  down = a.down;
  repo = repo_over a.repo;
}))

-- a row for each of these DIDs, with its account
abbrev pub account_rows : List Row → List (List ℕ) → List Row
account_rows rows names = map (λ did. account_row did (account did rows)) names

-- what carries rows over: their last number, then their hosts in the order of their first rows,
-- then their accounts
unfoldable pub carried : List Row → List Row
carried rows = Row.Carried (Carried.Last (last_seq rows))
    ∷ (host_rows (hosts rows) ++ account_rows rows (dids rows))

-- the cut of a journal at a number: what carries its front over, and the rows behind the front
unfoldable pub cut : List Row → ℕ → List Row
cut J c = carried (carried_front c J) ++ rows_behind_front c J

-- A journal may be cut at a number up to its last one where it has an event up to that number.
pub record MayCut (J : List Row) (c : ℕ) : Type 0 where
  pub held : c ≤ last_seq J
  pub some : have_old c J ≡ true
