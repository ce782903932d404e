-- What a fetch found, as rows and the relay's own events need it (own).
use Rattle.std.specs.Prelude.{◌≡◌, ⊤, ℕ, ◌+◌, ◌<◌, ◌^◌, Bool, true, List, [], length, Option, Some, None, Ok}
use Rattle.std.specs.List.{filter}
use Rattle.at_authority.specs.Calls.{Call, AreCalls}
use Rattle.at_authority.specs.Panels.{Panel}
use Rattle.at_car.specs.Blocks.{IsLinkOf}
use Rattle.at_cbor.specs.Encoding.{IsString, IsText}
use Rattle.at_cid.specs.Link.{IsBytes}
use Rattle.at_event.specs.declared.head.Head.{Head}
use Rattle.relay_row.specs.Rules.{is_head, is_message, is_repo_number}
use Rattle.relay_row.specs.declared.fetched.Fetched.{Fetched}
use Rattle.at_cid.specs.declared.limits.TheConstants.{NUMBERS}
use Rattle.relay_core.specs.Decide.{Found, absent, unfit, found, commit_car, sync_message, whole_under}
use Rattle.repo_sync.specs.Repository.{IsWhole}
use Rattle.repo_sync.specs.Faults.{fault_number}
use Rattle.repo_sync.specs.declared.fault.RepoFault.{RepoFault}
use Rattle.repo_sync.specs.declared.found.Found.{Found as Checked}
use Rattle.relay_step.specs.Asked.{AllAbout, is_refresh}
use Rattle.relay_step.specs.Fetching.{found_and_asked}
use Rattle.relay_step.specs.declared.fetching.FoundRepo.{FoundRepo}

abbrev pub found_as : FoundRepo → Found
found_as FoundRepo.Absent = absent
found_as (FoundRepo.Refused n) = unfit n
found_as (FoundRepo.Fit checked) = found checked.head checked.records checked.block

-- a repository that was found whole, judged: refused with a number, or to be taken over
abbrev pub judged_as : Checked → Option ℕ → Found
judged_as checked None = found checked.head checked.records checked.block
judged_as checked (Some n) = unfit n

-- It was judged between these panels, and this is found.
pub record IsJudgedAs (did : List ℕ) (moment : ℕ) (checked : Checked) (f : Found)
    (old new : Panel) : Type 0 where
  pub calls : List Call
  pub good : Bool
  pub is : found_and_asked did moment good (Ok checked) ≡ (f, calls)
  pub made : AreCalls old calls new

-- the number with which a repository is refused, unless memory ran out or a read failed
abbrev pub refused_as : RepoFault → Option ℕ
refused_as RepoFault.Memory = None
refused_as RepoFault.Failed = None
refused_as fault = Some (fault_number fault)

-- what was found is the whole of some bytes
pub record IsOfBytes (did : List ℕ) (least : Option ℕ) (checked : Checked) : Type 0 where
  pub bytes : List ℕ
  pub are : IsBytes bytes
  pub whole : IsWhole did least bytes checked

-- what was found may stand in a row
abbrev pub MayBeKept : Found → Type 0
MayBeKept absent = ⊤
MayBeKept (unfit n) = is_repo_number true n ≡ true
MayBeKept (found head records block) = (is_head head ≡ true) × (records < NUMBERS)
    × IsLinkOf head.commit block

-- the relay's own event of a commit can be read back: what types say of its parts
pub record IsTyped (did time : List ℕ) (head : Head) (block : List ℕ) : Type 0 where
  pub did_text : IsText did
  pub time_text : IsText time
  pub rev : head.rev < 2 ^ 64
  pub car : IsString (commit_car head block)
  pub short : length (commit_car head block) < 2 ^ 63

-- What was asked of the judges about an account, with no refresh.
pub record AskedPlain (old : Panel) (did : List ℕ) (new : Panel) : Type 0 where
  pub calls : List Call
  pub about : AllAbout did calls
  pub plain : filter is_refresh calls ≡ []
  pub made : AreCalls old calls new

-- what was found, under the number behind the last one
abbrev pub made_of : ℕ → List ℕ → List ℕ → Found → Fetched
made_of last did time absent = Fetched.Absent
made_of last did time (unfit n) = Fetched.Refused n
made_of last did time (found head records block) =
    Fetched.Whole (whole_under did time head records block (last + 1))

-- where it takes a number there is one, and what types say of the event by which it goes out
abbrev pub IsSent : ℕ → List ℕ → List ℕ → Found → Type 0
IsSent last did time absent = ⊤
IsSent last did time (unfit n) = ⊤
IsSent last did time (found head records block) = (last + 1 < NUMBERS) × IsTyped did time head block
    × (is_message (sync_message did time head block (last + 1)) ≡ true)
