-- Laws of cuts without one of their premises.
use Rattle.std.specs.Prelude.{◌≡◌, ℕ, ◌≤◌, List}
use Rattle.relay_row.specs.Folds.{last_seq}
use Rattle.relay_row.specs.Journal.{IsJournal}
use Rattle.relay_row.specs.declared.row.Row.{Row}
use Rattle.cut_law.specs.Cut.{cut}

-- Where no event has a number up to that of the cut, there is nothing to carry over ..
pub record PremisesAreNeeded : Type 0 where
  -- .. and what is left is no journal
  pub some : ((J : List Row) (c : ℕ) → IsJournal J → c ≤ last_seq J → IsJournal (cut J c)) → ⊥
  -- .. and a second cut adds a row
  pub second : ((J : List Row) (c d : ℕ) → IsJournal J → cut (cut J c) d ≡ cut J d) → ⊥
