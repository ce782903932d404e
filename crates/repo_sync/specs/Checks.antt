-- What a check of a repository answers.
use Rattle.std.specs.Prelude.{⊤, ℕ, List, Option, Result, Err, IfOk, IfErr}
use Rattle.at_cid.specs.Link.{IsBytes}
use Rattle.at_cid.specs.Memory.{Gives}
use Rattle.repo_sync.specs.Faults.{cause_of}
use Rattle.repo_sync.specs.Repository.{IsAnswer, IsWhole}
use Rattle.repo_sync.specs.declared.fault.RepoFault.{RepoFault}
use Rattle.repo_sync.specs.declared.found.Found.{Found}

-- why the bytes are refused, unless memory ran out or a read failed
abbrev pub IsRefused : List ℕ → Option ℕ → List ℕ → RepoFault → Type 0
IsRefused did least bytes RepoFault.Memory = ⊤
IsRefused did least bytes RepoFault.Failed = ⊤
IsRefused did least bytes fault = IsAnswer did least bytes (Err fault)

-- the result is what the bytes come to, whatever that is, unless memory ran out or a read failed
abbrev pub ChecksExactly : List ℕ → Option ℕ → List ℕ → Result Found RepoFault → Type 0
ChecksExactly did least bytes result = (answer : Result Found RepoFault)
    → IsAnswer did least bytes answer → Gives (λ (found : Found). found) cause_of result answer

-- there are bytes of which the result tells, also where it isn't told which are read
pub record IsOfSome (did : List ℕ) (least : Option ℕ)
    (result : Result Found RepoFault) : Type 0 where
  pub bytes : List ℕ
  pub are : IsBytes bytes
  pub whole : IfOk result (IsWhole did least bytes)
  pub refused : IfErr result (IsRefused did least bytes)
