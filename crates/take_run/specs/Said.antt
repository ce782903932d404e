-- What was answered to messages, and what is kept of it for the report (own). No public clause
-- cites this file.
use Rattle.std.specs.Prelude.{◌≡◌, ℕ, ◌+◌, true, false, List, [], ◌∷◌, ◌++◌, length, map, Option, Some, None, if◌then◌else◌}
use Rattle.std.specs.List.{AllByRecursion}
use Rattle.relay_core.specs.Report.{over_line}
use Rattle.relay_core.specs.Runs.{has_ended}
use Rattle.relay_step.specs.Steps.{Step}
use Rattle.store_take.specs.Batches.{is_end}
use Rattle.store_take.specs.Lines.{line_of}
use Rattle.store_take.specs.Outcomes.{outcome_of}
use Rattle.store_take.specs.declared.message.Message.{Message}
use Rattle.store_take.specs.declared.outcome.Fetch.{Fetch}
use Rattle.store_take.specs.declared.outcome.Outcome.{Outcome}
use Rattle.take_run.specs.declared.tally.Tally.{Tally}

-- a host, and what was answered to a message of it: nothing where it ended before
abbrev pub Said : Type 0
Said = List ℕ × Option Outcome

-- what was answered to a step
abbrev pub said_to : Step → Said
said_to s = (s.host, outcome_of s)

-- and to steps
abbrev pub said : List Step → List Said
said steps = map said_to steps

-- the answers to the first messages of a group, one each
abbrev pub answered : List Message → List Outcome → List Said
answered group [] = []
answered [] (o ∷ outcomes) = []
answered (m ∷ group) (o ∷ outcomes) = (m.host, Some o) ∷ answered group outcomes

-- the line of an answer
abbrev pub line_said : Said → List ℕ
line_said (host, None) = over_line host
line_said (host, Some o) = line_of host o

-- the lines of answers
abbrev pub text_of : List Said → List ℕ
text_of [] = []
text_of (x ∷ xs) = line_said x ++ text_of xs

-- the hosts that have ended, in the order of their ends, after an answer
abbrev pub ended_said : List (List ℕ) → Said → List (List ℕ)
ended_said ended (host, None) = ended
ended_said ended (host, Some o) = if is_end o then ended ++ host ∷ [] else ended

-- and after answers
abbrev pub ended_in : List (List ℕ) → List Said → List (List ℕ)
ended_in ended [] = ended
ended_in ended (x ∷ xs) = ended_in (ended_said ended x) xs

-- how many numbers a fetch gives
abbrev pub gives_fetched : Fetch → ℕ
gives_fetched Fetch.NotAsked = 0
gives_fetched Fetch.Absent = 0
gives_fetched (Fetch.Refused n) = 0
gives_fetched (Fetch.Whole seq records) = 1

-- how many numbers an outcome gives
abbrev pub gives : Option Outcome → ℕ
gives (Some (Outcome.Event n seq)) = 1
gives (Some (Outcome.Refused n r f)) = gives_fetched f
gives o = 0

-- how many numbers were given
abbrev pub given : List Said → ℕ
given [] = 0
given (x ∷ xs) = gives x.1 + given xs

-- whether an outcome is a refusal, as a count
abbrev pub refuses : Option Outcome → ℕ
refuses (Some (Outcome.Refused n r f)) = 1
refuses o = 0

-- how many messages were refused
abbrev pub refused : List Said → ℕ
refused [] = 0
refused (x ∷ xs) = refuses x.1 + refused xs

-- these answers were noted
pub record IsNoted (xs : List Said) (old new : Tally) : Type 0 where
  pub ends : new.ended.items ≡ ended_in old.ended.items xs
  pub messages : new.messages ≡ old.messages + length xs
  pub events : new.events ≡ old.events + given xs
  pub refused : new.refused ≡ old.refused + refused xs

-- none of the hosts has ended
abbrev pub AreLive : List (List ℕ) → List Message → Type 0
AreLive ended group = AllByRecursion (λ m. has_ended ended m.host ≡ false) group

-- the first of them has
abbrev pub FirstHasEnded : List (List ℕ) → List Message → Type 0
FirstHasEnded ended [] = ⊥
FirstHasEnded ended (m ∷ group) = has_ended ended m.host ≡ true
