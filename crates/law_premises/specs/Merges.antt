-- The law of merges, without one of its premises.
use Rattle.std.specs.Prelude.{ℕ, List}
use Rattle.relay_row.specs.declared.row.Row.{Row}
use Rattle.relay_core.specs.Decide.{Checks}
use Rattle.relay_core.specs.Runs.{Message}
use Rattle.relay_core.specs.Worlds.{World, RunsIn}
use Rattle.relay_law.specs.Merges.{Agree, Merge, OneHome}

-- Rows of two lists of messages may disagree ..
pub record MergesMayDisagree : Type 0 where
  -- where they aren't merges of the same streams
  pub merge : ((checks : Checks) (w : World) (J : List Row) (ended : List (List ℕ))
      (one other : List Message) (ones others : List Row)
      → OneHome w one → RunsIn checks w J ended one ones → RunsIn checks w J ended other others
      → Agree checks J ones others) → ⊥
  -- where two hosts that tell of an account are its home
  pub home : ((checks : Checks) (w : World) (J : List Row) (ended : List (List ℕ))
      (one other : List Message) (ones others : List Row)
      → Merge one other → RunsIn checks w J ended one ones → RunsIn checks w J ended other others
      → Agree checks J ones others) → ⊥
  -- where the rows are of no run in that world
  pub run : ((checks : Checks) (w : World) (J : List Row) (ended : List (List ℕ))
      (one other : List Message) (ones others : List Row)
      → Merge one other → OneHome w one → RunsIn checks w J ended one ones
      → Agree checks J ones others) → ⊥
