-- Journals that a relay's own commands make, one from another (own).
use Rattle.std.specs.Prelude.{◌≡◌, ⊤, ◌⊎◌, ℕ, Bool, List, [], ◌∷◌, ◌++◌, Option, Some, IsTrue}
use Rattle.std.specs.List.{AllByRecursion}
use Rattle.at_authority.specs.Panels.{Panel}
use Rattle.at_cid.specs.Link.{IsBytes}
use Rattle.at_event.specs.Formed.{IsShortText}
use Rattle.relay_row.specs.declared.row.Row.{Row}
use Rattle.relay_core.specs.Decide.{Checks}
use Rattle.relay_law.specs.Histories.{IsCut}
use Rattle.relay_step.specs.Around.{Around, AllAsked}
use Rattle.relay_step.specs.Fetching.{AreBytes}
use Rattle.relay_step.specs.Operators.{IsOperated, IsSyncedNow}
use Rattle.relay_step.specs.Steps.{Step, AreSteps, rows}
use Rattle.relay_step.specs.declared.command.CommandAnswer.{CommandAnswer}

-- each message is bytes
abbrev pub AreOfBytes : List Step → Type 0
AreOfBytes steps = AllByRecursion (λ s. IsBytes s.bytes) steps

-- each DID's repository is bytes
abbrev pub GiveBytes : (List ℕ → Option (List ℕ)) → Type 0
GiveBytes repository = (did : List ℕ) → AreBytes (repository did)

-- Messages were taken behind the journal J. It holds the rows that they made, or the first of them,
-- where a crash took the others.
pub record TakesMessages (checks : Checks) (J K : List Row) : Type 0 where
  pub clock_tells : Bool
  pub repos_tell : Bool
  pub ended : List (List ℕ)
  pub old : Around
  pub new : Around
  pub steps : List Step
  pub are : AreSteps checks J ended steps
  pub asked : AllAsked clock_tells repos_tell J old steps new
  pub repositories : IsTrue repos_tell → GiveBytes old.repository
  pub messages : AreOfBytes steps
  pub held : List Row
  pub lost : List Row
  pub made : rows steps ≡ held ++ lost
  pub now : K ≡ J ++ held

-- An operator took an account down or restored it.
pub record ChangesAccount (J K : List Row) : Type 0 where
  pub did : List ℕ
  pub down : Bool
  pub time : List ℕ
  pub moment : ℕ
  pub row : Row
  pub short : IsShortText time
  pub made : IsOperated J did down time moment (CommandAnswer.Made row)
  pub now : K ≡ J ++ row ∷ []

-- An operator had a repository fetched.
pub record SyncsAccount (J K : List Row) : Type 0 where
  pub old : Panel
  pub new : Panel
  pub did : List ℕ
  pub time : List ℕ
  pub moment : ℕ
  pub repository : Option (List ℕ)
  pub row : Row
  pub short : IsShortText time
  pub bytes : AreBytes repository
  pub made : IsSyncedNow old J did time moment (Some repository) (CommandAnswer.Made row) new
  pub now : K ≡ J ++ row ∷ []

-- The journal K comes from J by a command: messages that are taken, an operator's word on an
-- account, or a cut.
abbrev pub ComesByCommand : Checks → List Row → List Row → Type 0
ComesByCommand checks J K = TakesMessages checks J K
    ⊎ (ChangesAccount J K ⊎ (SyncsAccount J K ⊎ ((number : ℕ) × IsCut J number K)))

-- each of these journals comes from the one before it, and the first from J
abbrev pub ComeByCommands : Checks → List Row → List (List Row) → Type 0
ComeByCommands checks J [] = ⊤
ComeByCommands checks J (K ∷ journals) = ComesByCommand checks J K
    × ComeByCommands checks K journals
