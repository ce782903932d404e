-- What the fetch of a repository finds, and what it asks of the judges (own).
use Rattle.std.specs.Prelude.{◌≡◌, ⊤, ℕ, Bool, List, [], ◌∷◌, Option, Some, None, Result, Ok, Err, if◌then◌else◌}
use Rattle.at_authority.specs.Calls.{Call, answers, AreCalls}
use Rattle.at_authority.specs.Panels.{Panel}
use Rattle.at_authority.specs.Queries.{asks_verdict}
use Rattle.at_cid.specs.Link.{IsBytes}
use Rattle.at_event.specs.Refusals.{code_of}
use Rattle.at_event.specs.declared.refusal.Refusal.{Refusal}
use Rattle.relay_io.specs.Choices.{WhereElse}
use Rattle.relay_row.specs.Rules.{loses}
use Rattle.relay_row.specs.declared.row.Row.{Row}
use Rattle.account_state.specs.Folds.{account, last_rev}
use Rattle.relay_core.specs.Decide.{Found, absent, unfit, found, is_ahead}
use Rattle.relay_core.specs.Shown.{found_in, or_zero}
use Rattle.relay_core.specs.declared.limits.TheConstants.{FETCHED_AHEAD, FETCHED_UNSIGNED}
use Rattle.repo_sync.specs.Faults.{fault_number}
use Rattle.repo_sync.specs.Repository.{IsAnswer}
use Rattle.repo_sync.specs.declared.fault.RepoFault.{RepoFault}
use Rattle.repo_sync.specs.declared.found.Found.{Found as Checked}
use Rattle.relay_step.specs.Steps.{Decided, recorded}

-- What is found, and what is asked of the judges, by the answer of a repository's check: one that
-- is at fault is refused unasked, and so is one whose revision is far ahead of the moment; of
-- another the judges say whether its signature is good.
abbrev pub found_and_asked : List ℕ → ℕ → Bool → Result Checked RepoFault → Found × List Call
found_and_asked did moment good (Err fault) = (unfit (fault_number fault), [])
found_and_asked did moment good (Ok checked) =
    if is_ahead checked.head.rev (Some moment) then (unfit FETCHED_AHEAD, [])
    else (
      if good then found checked.head checked.records checked.block else unfit FETCHED_UNSIGNED,
      answers (asks_verdict did checked.digest checked.sig) good ∷ [],
    )

-- The fetch of a DID that has this repository, or none, comes to this, and this is asked.
abbrev pub IsFetchedFrom : Option (List ℕ) → List ℕ → Option ℕ → ℕ → Found → List Call → Type 0
IsFetchedFrom None did least moment f calls = (f ≡ absent) × (calls ≡ [])
IsFetchedFrom (Some bytes) did least moment f calls = (answer : Result Checked RepoFault)
    × (good : Bool) × IsAnswer did least bytes answer
    × (found_and_asked did moment good answer ≡ (f, calls))

-- what is told, where it is
abbrev pub told_where : {A : Type 0} → Bool → A → Option A
told_where tells x = if tells then Some x else None

abbrev pub AreBytes : Option (List ℕ) → Type 0
AreBytes None = ⊤
AreBytes (Some bytes) = IsBytes bytes

-- A fetch found this, and asked this: of the repository that is told, or else of some.
abbrev pub IsFetchedAs : Option (Option (List ℕ)) → List ℕ → Option ℕ → ℕ → Found → List Call
    → Type 0
IsFetchedAs (Some repository) did least moment f calls =
    IsFetchedFrom repository did least moment f calls
IsFetchedAs None did least moment f calls =
    (repository : Option (List ℕ)) × AreBytes repository
    × IsFetchedFrom repository did least moment f calls

-- a fetch between these panels
pub record AnsweredFetch (repository : Option (Option (List ℕ))) (did : List ℕ) (least : Option ℕ)
    (moment : ℕ) (old : Panel) (f : Found) (new : Panel) : Type 0 where
  pub calls : List Call
  pub fetched : IsFetchedAs repository did least moment f calls
  pub made : AreCalls old calls new

-- What is fetched behind a refusal: the account's repository where it loses its account, beside the
-- last revision before the row, and else nothing.
abbrev pub IsFetched : Bool → (List ℕ → Option (List ℕ)) → List Row → List ℕ → Option Refusal → ℕ
    → Found → List Call → Type 0
IsFetched repos_tell repository J did None moment f calls = calls ≡ []
IsFetched repos_tell repository J did (Some r) moment f calls = WhereElse (loses (code_of r))
    (IsFetchedAs (told_where repos_tell (repository did)) did (last_rev (account did J).repo)
    moment f calls)
    (calls ≡ [])

-- the same of what came of a message
abbrev pub IsFetchedTold : Bool → (List ℕ → Option (List ℕ)) → List Row → Decided → List Call
    → Type 0
IsFetchedTold repos_tell repository J (recorded t) calls =
    IsFetched repos_tell repository J t.did t.refusal (or_zero t.moment) (found_in t.fetched) calls
IsFetchedTold repos_tell repository J other calls = calls ≡ []
