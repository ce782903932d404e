-- What holds of all lists of steps.
use Rattle.std.specs.Prelude.{◌↔◌, ℕ, List, ◌++◌}
use Rattle.relay_row.specs.declared.row.Row.{Row}
use Rattle.relay_core.specs.Decide.{Checks}
use Rattle.relay_core.specs.Runs.{RunFrom}
use Rattle.relay_step.specs.Steps.{Step, messages, rows, AreSteps, ended_by_all}

-- Steps are a run: their messages make their rows.
abbrev pub StepsRun : Type 0
StepsRun = (checks : Checks) (J : List Row) (ended : List (List ℕ)) (steps : List Step)
    → AreSteps checks J ended steps → RunFrom checks J ended (messages steps) (rows steps)

-- Steps join and come apart.
abbrev pub StepsJoin : Type 0
StepsJoin = (checks : Checks) (J : List Row) (ended : List (List ℕ)) (front others : List Step)
    → AreSteps checks J ended (front ++ others) ↔ (AreSteps checks J ended front
    × AreSteps checks (J ++ rows front) (ended_by_all front ended) others)
