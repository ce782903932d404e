-- What is known of an account.
use Rattle.std.specs.Prelude.{ℕ, Bool, List, Option, Some, None, if◌then◌else◌}
use Rattle.account_state.specs.declared.account.Account.{Account}
use Rattle.account_state.specs.declared.links.Links.{Links}
use Rattle.account_state.specs.declared.repo.Repo.{Repo}

-- What is known of an account: whether its host serves it, what the host said of it, whether the
-- operator took it down, and its repository.
pub record State : Type 0 where
  pub active : Bool
  pub status : Option (List ℕ)
  pub down : Bool
  pub repo : Repo

abbrev pub repo_of : ℕ → Links → Repo
repo_of rev Links.Missing = Repo.Missing
repo_of rev (Links.Good data_root commit) =
    Repo.Good (record { rev = rev; data_root = data_root; commit = commit })
repo_of rev Links.Lost = Repo.Lost (Some rev)
repo_of rev Links.LostAtStart = Repo.Lost None

-- what an account says
abbrev pub state_of : Account → State
state_of a = record {
  active = a.active;
  status = if a.has_status then Some a.status else None;
  down = a.down;
  repo = repo_of a.rev a.links;
}

-- what it says where a row names it
abbrev pub known : Account → Option State
known a = if a.named then Some (state_of a) else None
