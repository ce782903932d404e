-- Steps: messages in the order in which they are taken, and what came of each (own).
use Rattle.std.specs.Prelude.{◌≡◌, ℕ, true, false, List, [], ◌∷◌, ◌++◌, map, Some, None}
use Rattle.at_event.specs.Frames.{frame_of}
use Rattle.relay_row.specs.declared.row.Row.{Row}
use Rattle.relay_row.specs.declared.taken.Taken.{Taken}
use Rattle.relay_core.specs.Decide.{Checks}
use Rattle.relay_core.specs.Report.{ended_by}
use Rattle.relay_core.specs.Runs.{Message, skipped_by, has_ended, IsMadeBy}
use Rattle.relay_core.specs.declared.decision.Pass.{Pass}

-- what came of a message: nothing, since its host had ended before; no row; or this row
pub data Decided : Type 0 where
  after_end : Decided
  skipped : Pass → Decided
  recorded : Taken → Decided

-- a step: the host that sent a message, the message's bytes, and what came of it
pub record Step : Type 0 where
  pub host : List ℕ
  pub bytes : List ℕ
  pub decided : Decided

abbrev pub step_of : List ℕ → List ℕ → Decided → Step
step_of host bytes told = record { host = host; bytes = bytes; decided = told }

-- the message of a step, as it reads
abbrev pub message_of : Step → Message
message_of s = (s.host, frame_of s.bytes)

abbrev pub messages : List Step → List Message
messages steps = map message_of steps

abbrev pub rows_decided : Decided → List Row
rows_decided after_end = []
rows_decided (skipped pass) = []
rows_decided (recorded t) = Row.Taken t ∷ []

-- the rows that steps make
abbrev pub rows : List Step → List Row
rows [] = []
rows (s ∷ steps) = rows_decided s.decided ++ rows steps

-- the hosts that have ended, behind what came of a host's message
abbrev pub ended_decided : Decided → List ℕ → List (List ℕ) → List (List ℕ)
ended_decided after_end host ended = ended
ended_decided (skipped pass) host ended = ended_by pass host ended
ended_decided (recorded t) host ended = ended

abbrev pub ended_by_all : List Step → List (List ℕ) → List (List ℕ)
ended_by_all [] ended = ended
ended_by_all (s ∷ steps) ended = ended_by_all steps (ended_decided s.decided s.host ended)

-- Behind the journal J, with these hosts ended, this is what comes of a message.
abbrev pub IsDecidedAs : Checks → List Row → List (List ℕ) → Message → Decided → Type 0
IsDecidedAs checks J ended m after_end = has_ended ended m.0 ≡ true
IsDecidedAs checks J ended m (skipped pass) = (has_ended ended m.0 ≡ false)
    × (skipped_by J m ≡ Some pass)
IsDecidedAs checks J ended m (recorded t) = (has_ended ended m.0 ≡ false) × (skipped_by J m ≡ None)
    × IsMadeBy checks J m (Row.Taken t)

-- Behind the journal J, with these hosts ended, the steps come one after another.
abbrev pub AreSteps : Checks → List Row → List (List ℕ) → List Step → Type 0
AreSteps checks J ended [] = Unit {0}
AreSteps checks J ended (s ∷ steps) = IsDecidedAs checks J ended (message_of s) s.decided
    × AreSteps checks (J ++ rows_decided s.decided) (ended_decided s.decided s.host ended) steps
