-- The account of a DID, as a left fold over the rows of a journal (own).
use Rattle.std.specs.Prelude.{ℕ, true, false, List, Option, Some, None, if◌then◌else◌}
use Rattle.at_event.specs.Refusals.{code_of}
use Rattle.at_event.specs.declared.refusal.Refusal.{Refusal}
use Rattle.relay_row.specs.declared.carried.Carried.{Carried}
use Rattle.relay_row.specs.declared.carried.CarriedAccount.{CarriedAccount}
use Rattle.relay_row.specs.declared.carried.CarriedRepo.{CarriedRepo}
use Rattle.relay_row.specs.declared.fetched.Fetched.{Fetched}
use Rattle.relay_row.specs.declared.row.Row.{Row}
use Rattle.relay_row.specs.declared.taken.Effect.{Effect}
use Rattle.relay_row.specs.declared.taken.Taken.{Taken}
use Rattle.relay_row.specs.Folds.{folded, names, did_of_row}
use Rattle.relay_row.specs.Rules.{loses}
use Rattle.account_state.specs.declared.repo.Repo.{Repo}
use Rattle.account_state.specs.State.{State}

-- the account that no row names
abbrev pub fresh : State
fresh = record { active = true; status = None; down = false; repo = Repo.Missing }

-- an accepted event
abbrev pub effected : State → Effect → State
effected a Effect.Nothing = a
effected a (Effect.Repo head) = record a { repo = Repo.Good head }
effected a (Effect.Account active status) = record {
  active = active;
  status = status;
  down = a.down;
  repo = a.repo;
}

-- the revision of the newest commit that is known, also where commits behind it were lost
abbrev pub last_rev : Repo → Option ℕ
last_rev Repo.Missing = None
last_rev (Repo.Good head) = Some head.rev
last_rev (Repo.Lost rev) = rev

-- a refused event
abbrev pub lost : State → Option Refusal → State
lost a None = a
lost a (Some r) = if loses (code_of r) then record a { repo = Repo.Lost (last_rev a.repo) } else a

-- the fetch that followed
abbrev pub refetched : State → Fetched → State
refetched a Fetched.NotAsked = a
refetched a Fetched.Absent = a
refetched a (Fetched.Refused n) = a
refetched a (Fetched.Whole w) = record a { repo = Repo.Good w.head }

abbrev pub taken_by : State → Taken → State
taken_by a t = refetched (lost (effected a t.effect) t.refusal) t.fetched

abbrev pub repo_carried : CarriedRepo → Repo
repo_carried CarriedRepo.Missing = Repo.Missing
repo_carried (CarriedRepo.Good head) = Repo.Good head
repo_carried (CarriedRepo.Lost rev) = Repo.Lost rev

-- a carried account, whatever was known before
abbrev pub carried_as : CarriedAccount → State
carried_as b = record {
  active = b.active;
  status = b.status;
  down = b.down;
  repo = repo_carried b.repo;
}

-- what a row makes of the account that it names
abbrev pub moved : State → Row → State
moved a (Row.Taken t) = taken_by a t
moved a (Row.Synced did whole moment) = record a { repo = Repo.Good whole.head }
moved a (Row.Operated o) = record a { down = o.down }
moved a (Row.Carried (Carried.Last seq)) = a
moved a (Row.Carried (Carried.Host host cursor)) = a
moved a (Row.Carried (Carried.Account b)) = carried_as b

-- an account after one more row
abbrev pub account_after : List ℕ → State → Row → State
account_after did a row = if names did (did_of_row row) then moved a row else a

-- the account of a DID, as the rows of a journal leave it
unfoldable pub account : List ℕ → List Row → State
account did rows = folded (account_after did) fresh rows
