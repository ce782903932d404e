-- What rows show that were made before judges who say yes to everything (own).
use Rattle.std.specs.Prelude.{◌≡◌, ℕ, Bool, true, List}
use Rattle.std.specs.List.{list_all}
use Rattle.at_authority.specs.Panels.{Panel}
use Rattle.at_authority.specs.Trusting.{trusting}
use Rattle.relay_row.specs.declared.row.Row.{Row}
use Rattle.relay_core.specs.Decide.{Checks}
use Rattle.relay_core.specs.Opening.{OpensRight}
use Rattle.relay_core.specs.Shown.{says_yes}
use Rattle.relay_step.specs.Around.{Around, AllAsked}
use Rattle.relay_step.specs.Steps.{Step, AreSteps, rows}

-- each method has one authority, which says yes and hasn't fallen
abbrev pub Trusts : Panel → Type 0
Trusts panel = (name : List ℕ) → panel name ≡ trusting

-- Steps between judges who say yes to everything, and who say so still behind them, make rows that
-- show it.
abbrev pub TrustingStepsShow : Type 0
TrustingStepsShow = (checks : Checks) → OpensRight checks
    → (clock_tells repos_tell : Bool) (J : List Row) (ended : List (List ℕ)) (old new : Around)
    (steps : List Step)
    → AreSteps checks J ended steps → AllAsked clock_tells repos_tell J old steps new
    → Trusts old.panel → Trusts new.panel → list_all says_yes (rows steps) ≡ true
