-- Premises that the laws of journals want: without them, none of these holds.
use Rattle.std.specs.Prelude.{ℕ, List, [], ◌∷◌, ◌++◌, Option}
use Rattle.relay_row.specs.declared.fetched.Whole.{Whole}
use Rattle.relay_row.specs.declared.operated.Operated.{Operated}
use Rattle.relay_row.specs.declared.row.Row.{Row}
use Rattle.relay_core.specs.Decide.{Checks}
use Rattle.relay_core.specs.Opening.{OpensRight}
use Rattle.relay_core.specs.Runs.{Message, Run}
use Rattle.relay_law.specs.Carried.{AreOfKnown}
use Rattle.relay_law.specs.Chains.{chains}
use Rattle.relay_law.specs.Right.{AreRight}
use Rattle.relay_law.specs.Sound.{IsSound, AllReplay}

pub record PremisesAreNeeded : Type 0 where
  -- the chains of a journal replay, sound or not
  pub replays : ((rows : List Row) (did : List ℕ) → AllReplay (chains did rows)) → ⊥
  -- a front is sound, whatever journal it is of
  pub fronts : ((xs ys : List Row) → IsSound xs) → ⊥
  -- behind an operator's command a journal is sound, sound before or not
  pub operated : ((rows : List Row) (o : Operated) → IsSound (rows ++ Row.Operated o ∷ [])) → ⊥
  pub synced : ((rows : List Row) (did : List ℕ) (whole : Whole) (moment : Option ℕ)
      → IsSound (rows ++ Row.Synced did whole moment ∷ [])) → ⊥
  -- checks that open rightly are right, however they link
  pub links : ((checks : Checks) → OpensRight checks → AreRight checks) → ⊥
  -- runs accept no commit of a lost account, whatever the checks
  pub known : ((checks : Checks) (J : List Row) (messages : List Message) (rows : List Row)
      → Run checks J messages rows → AreOfKnown J rows) → ⊥
