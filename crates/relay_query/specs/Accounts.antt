-- What is replied of an account: the Lexicons `com.atproto.sync.listRepos` and `getRepoStatus`.
use Rattle.std.specs.Prelude.{ℕ, ◌&&◌, not, Bool, true, false, List, Option, Some, None, codes, if◌then◌else◌}
use Rattle.at_cid.specs.Text.{text_of}
use Rattle.at_syntax.specs.Tid.{digits_of}
use Rattle.account_state.specs.State.{State}
use Rattle.account_state.specs.declared.repo.Repo.{Repo}

-- a DID with its account
abbrev pub Named : Type 0
Named = List ℕ × State

-- `active`: the account is active at its host, and not taken down here
abbrev pub is_available : State → Bool
is_available a = a.active && not a.down

-- `status`: why it isn't, where that is known
abbrev pub status_name : State → Option (List ℕ)
status_name a =
    if a.down then Some (codes "takendown") else (if a.active then None else a.status)

-- its repository is known
abbrev pub is_repo_good : Repo → Bool
is_repo_good Repo.Missing = false
is_repo_good (Repo.Good head) = true
is_repo_good (Repo.Lost rev) = false

-- `head`: the text of the newest commit's link, where the repository is known
abbrev pub link_of : Repo → Option (List ℕ)
link_of Repo.Missing = None
link_of (Repo.Good head) = Some (text_of head.commit)
link_of (Repo.Lost rev) = None

-- `rev`: the text of its revision
abbrev pub rev_of : Repo → Option (List ℕ)
rev_of Repo.Missing = None
rev_of (Repo.Good head) = Some (digits_of head.rev)
rev_of (Repo.Lost rev) = None
