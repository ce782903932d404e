-- The chains of an account: the commits that a journal accepted of it, each run of them behind a
-- base (own).
use Rattle.std.specs.Prelude.{ℕ, List, [], ◌∷◌, ◌++◌, if◌then◌else◌, ◌==◌}
use Rattle.relay_row.specs.Folds.{names, did_of_row}
use Rattle.relay_row.specs.declared.carried.Carried.{Carried}
use Rattle.relay_row.specs.declared.carried.CarriedRepo.{CarriedRepo}
use Rattle.relay_row.specs.declared.fetched.Fetched.{Fetched}
use Rattle.relay_row.specs.declared.row.Row.{Row}
use Rattle.relay_row.specs.declared.taken.Effect.{Effect}
use Rattle.relay_row.specs.declared.taken.Taken.{Taken}
use Rattle.commit_check.specs.Step.{empty_root}

-- what a row is to the chains of its account: an accepted commit, with its message and its `data`;
-- a base, with the root of its map; or neither
pub data Part : Type 0 where
  commits : List ℕ → List ℕ → Part
  rests : List ℕ → Part
  nothing : Part

-- an accepted event that gives its account a head is a commit, or a `#sync`, which is a base
abbrev pub effect_part : ℕ → List ℕ → Effect → Part
effect_part kind message Effect.Nothing = nothing
effect_part kind message (Effect.Account active status) = nothing
effect_part kind message (Effect.Repo head) =
    if kind == 1 then commits message head.data_root else rests head.data_root

-- a whole repository that was fetched is a base
abbrev pub taken_part : Taken → Fetched → Part
taken_part t Fetched.NotAsked = effect_part t.kind t.message t.effect
taken_part t Fetched.Absent = effect_part t.kind t.message t.effect
taken_part t (Fetched.Refused n) = effect_part t.kind t.message t.effect
taken_part t (Fetched.Whole w) = rests w.head.data_root

-- a carried account is a base where its repository is known
abbrev pub carried_part : CarriedRepo → Part
carried_part CarriedRepo.Missing = nothing
carried_part (CarriedRepo.Good head) = rests head.data_root
carried_part (CarriedRepo.Lost rev) = nothing

abbrev pub part_in : Row → Part
part_in (Row.Taken t) = taken_part t t.fetched
part_in (Row.Synced did whole moment) = rests whole.head.data_root
part_in (Row.Operated o) = nothing
part_in (Row.Carried (Carried.Last seq)) = nothing
part_in (Row.Carried (Carried.Host host cursor)) = nothing
part_in (Row.Carried (Carried.Account a)) = carried_part a.repo

-- what a row is to the chains of a DID
abbrev pub part_of : List ℕ → Row → Part
part_of did row = if names did (did_of_row row) then part_in row else nothing

-- a chain: the root of its base, and the commits behind it, each with its message and its `data`
abbrev pub Chain : Type 0
Chain = List ℕ × List (List ℕ × List ℕ)

abbrev pub by_part : {A : Type 0} → Part → (List ℕ → List ℕ → A) → (List ℕ → A) → A → A
by_part (commits message data_root) commit base other = commit message data_root
by_part (rests root) commit base other = base root
by_part nothing commit base other = other

-- the chains of a DID, where one is open with this base and these commits
abbrev pub chains_from : List ℕ → List ℕ → List (List ℕ × List ℕ) → List Row → List Chain
chains_from did base commits_so_far [] = (base, commits_so_far) ∷ []
chains_from did base commits_so_far (row ∷ rows) = by_part (part_of did row)
    (λ message data_root. chains_from did base (commits_so_far ++ (message, data_root) ∷ []) rows)
    (λ root. (base, commits_so_far) ∷ chains_from did root [] rows)
    (chains_from did base commits_so_far rows)

-- the chains of a DID: the first one stands on the empty tree
abbrev pub chains : List ℕ → List Row → List Chain
chains did rows = chains_from did empty_root [] rows
