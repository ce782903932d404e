-- What holds of all repositories.
use Rattle.std.specs.Prelude.{◌≡◌, ℕ, List, Option, Result}
use Rattle.at_cid.specs.Link.{IsBytes}
use Rattle.repo_sync.specs.Repository.{IsAnswer}
use Rattle.repo_sync.specs.declared.fault.RepoFault.{RepoFault}
use Rattle.repo_sync.specs.declared.found.Found.{Found}

-- No bytes come to two answers.
abbrev pub OneAnswer : Type 0
OneAnswer = (did : List ℕ) (least : Option ℕ) (bytes : List ℕ) (one other : Result Found RepoFault)
    → IsAnswer did least bytes one → IsAnswer did least bytes other → one ≡ other

-- All bytes come to one.
abbrev pub SomeAnswer : Type 0
SomeAnswer = (did : List ℕ) (least : Option ℕ) (bytes : List ℕ) → IsBytes bytes
    → (answer : Result Found RepoFault) × IsAnswer did least bytes answer
