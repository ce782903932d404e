-- What a `#sync` event comes to: its blocks hold the commit of a repository, and nothing that they
-- show is wrong.
-- (Lexicon `com.atproto.sync.subscribeRepos`, `#sync`.)
use Rattle.std.specs.Prelude.{◌≡◌, ℕ, List, false, IfSome, Option, Some, None, Result, Ok, Err}
use Rattle.at_cid.specs.Memory.{Gives}
use Rattle.at_car.specs.Car.{car_of}
use Rattle.at_commit.specs.declared.commit.Commit.{Commit}
use Rattle.at_event.specs.declared.event.SyncEvent.{SyncEvent}
use Rattle.at_event.specs.declared.refusal.Refusal.{Refusal}
use Rattle.event_checks.specs.Faults.{refusal_of}
use Rattle.event_checks.specs.Lines.{first_of, is_judged}
use Rattle.event_checks.specs.Opening.{CarResult, IsFound}
use Rattle.event_checks.specs.Table.{sync_lines}
use Rattle.event_checks.specs.declared.fault.OpenFault.{OpenFault}
use Rattle.repo_sync.specs.Repository.{found_of}
use Rattle.repo_sync.specs.declared.found.Found.{Found}

-- what is handed on of the commit object in a CAR; records are looked for nowhere
pub record IsFoundIn (car : CarResult) (found : Found) : Type 0 where
  pub link : List ℕ
  pub block : List ℕ
  pub commit : Commit
  pub held : IsFound car link block commit
  pub found_is : found ≡ found_of link block commit 0

-- no refusal applies, and this was found
pub record IsSynced (e : SyncEvent) (last : Option ℕ) (found : Found) : Type 0 where
  pub shown : first_of (sync_lines e last) ≡ None
  pub found_in : IsFoundIn (car_of e.blocks) found

-- what an event comes to behind the last revision of its account: the first refusal that applies,
-- or what was found
abbrev pub IsSyncAnswer : SyncEvent → Option ℕ → Result Found Refusal → Type 0
IsSyncAnswer e last (Ok found) = IsSynced e last found
IsSyncAnswer e last (Err refusal) = first_of (sync_lines e last) ≡ Some refusal

-- the result is what the event comes to, whatever that is, unless memory ran out
abbrev pub SyncsExactly : SyncEvent → Option ℕ → Result Found OpenFault → Type 0
SyncsExactly e last result = (answer : Result Found Refusal) → IsSyncAnswer e last answer
    → Gives (λ (found : Found). found) refusal_of result answer

-- no judge's refusal is told
abbrev pub IsUnjudged : OpenFault → Type 0
IsUnjudged fault = IfSome (refusal_of fault) (λ refusal. is_judged refusal ≡ false)
