-- The two merges of a trial (own): what four hosts send in a made history, in its order, and host
-- after host, is taken from the empty journal on.
use Rattle.std.specs.Prelude.{◌≡◌, ℕ, List, [], ◌++◌, map, Some, None}
use Rattle.std.specs.List.{AllByRecursion, filter}
use Rattle.std.specs.Str.{bytes_eq}
use Rattle.relay_core.specs.Decide.{Checks}
use Rattle.relay_core.specs.Opening.{OpensRight}
use Rattle.relay_gen.specs.Names.{host_of}
use Rattle.relay_law.specs.Right.{LinksRight}
use Rattle.relay_row.specs.declared.taken.Taken.{Taken}
use Rattle.relay_step.specs.Steps.{AreSteps, Step, recorded}

-- messages as hosts sent them, each behind its host
abbrev pub Sent : Type 0
Sent = List (List ℕ × List ℕ)

-- those of one host
abbrev pub of_host : List ℕ → Sent → Sent
of_host host sent = filter (λ m. bytes_eq host m.0) sent

-- those of the first host, then those of the second, the third and the fourth
abbrev pub by_host : Sent → Sent
by_host sent = of_host (host_of 0) sent
    ++ (of_host (host_of 1) sent ++ (of_host (host_of 2) sent ++ of_host (host_of 3) sent))

-- what a host sent, of a step
abbrev pub sent_by : Step → List ℕ × List ℕ
sent_by s = (s.host, s.bytes)

-- The message made a row, at the moment 0, that isn't a refusal.
abbrev pub IsUnrefused : Step → Type 0
IsUnrefused s = (t : Taken) × (s.decided ≡ recorded t) × (t.moment ≡ Some 0) × (t.refusal ≡ None)

-- These messages were taken in these steps, from the empty journal on, and none was refused.
pub record AreTaken (sent : Sent) (steps : List Step) : Type 0 where
  pub are_sent : map sent_by steps ≡ sent
  pub are : (checks : Checks) → OpensRight checks → LinksRight checks → AreSteps checks [] [] steps
  pub unrefused : AllByRecursion IsUnrefused steps
