-- What holds of the rows that commands make.
use Rattle.std.specs.Prelude.{ℕ, Bool, List, [], ◌++◌, Option, Some, IsTrue}
use Rattle.std.specs.List.{AllByRecursion}
use Rattle.at_authority.specs.Panels.{Panel}
use Rattle.at_event.specs.Formed.{IsShortText}
use Rattle.relay_row.specs.declared.row.Row.{Row}
use Rattle.relay_core.specs.Decide.{Checks}
use Rattle.relay_step.specs.Around.{Around, AllAsked}
use Rattle.relay_step.specs.Fetching.{AreBytes}
use Rattle.relay_step.specs.Operators.{IsOperated, IsSyncedNow}
use Rattle.relay_step.specs.Steps.{Step, AreSteps, rows}
use Rattle.relay_step.specs.declared.command.CommandAnswer.{CommandAnswer}
use Rattle.chain_law.specs.Given.{AreGiven, IsGiven}
use Rattle.chain_law.specs.Made.{AreOfBytes, GiveBytes, ComeByCommands}

-- Behind rows that are given, the rows of steps are given, where the repositories that tell give
-- bytes.
abbrev pub StepsAreGiven : Type 0
StepsAreGiven = (checks : Checks) (clock_tells repos_tell : Bool) (J : List Row)
    (ended : List (List ℕ)) (old new : Around) (steps : List Step)
    → (IsTrue repos_tell → GiveBytes old.repository) → AreOfBytes steps → AreGiven checks [] J
    → AreSteps checks J ended steps → AllAsked clock_tells repos_tell J old steps new
    → AreGiven checks [] (J ++ rows steps)

-- So is the row of an account that is taken down or restored, at a time that is short text.
abbrev pub OperatedAreGiven : Type 0
OperatedAreGiven = (checks : Checks) (J : List Row) (did : List ℕ) (down : Bool) (time : List ℕ)
    (moment : ℕ) (row : Row)
    → IsShortText time → IsOperated J did down time moment (CommandAnswer.Made row)
    → IsGiven checks J row

-- And that of a repository that is fetched at an operator's command, and is bytes.
abbrev pub SyncedAreGiven : Type 0
SyncedAreGiven = (checks : Checks) (old new : Panel) (J : List Row) (did time : List ℕ) (moment : ℕ)
    (repository : Option (List ℕ)) (row : Row)
    → IsShortText time → AreBytes repository
    → IsSyncedNow old J did time moment (Some repository) (CommandAnswer.Made row) new
    → IsGiven checks J row

-- Each journal that commands make, one from another and the first from an empty one, is given.
abbrev pub OwnJournalsAreGiven : Type 0
OwnJournalsAreGiven = (checks : Checks) (journals : List (List Row))
    → ComeByCommands checks [] journals → AllByRecursion (λ J. AreGiven checks [] J) journals
