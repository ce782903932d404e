-- What is said of steps: a line for each, in their order (own).
use Rattle.std.specs.Prelude.{ℕ, List, [], ◌∷◌, ◌++◌}
use Rattle.relay_core.specs.Report.{over_line, skipped_line, taken_line}
use Rattle.relay_step.specs.Steps.{Decided, after_end, skipped, recorded, Step, message_of}

-- the line of a step by which this came of its message
abbrev pub line_decided : Step → Decided → List ℕ
line_decided s after_end = over_line s.host
line_decided s (skipped pass) = skipped_line (message_of s)
line_decided s (recorded t) = taken_line t

-- the lines of steps
abbrev pub lines_of : List Step → List ℕ
lines_of [] = []
lines_of (s ∷ steps) = line_decided s s.decided ++ lines_of steps
