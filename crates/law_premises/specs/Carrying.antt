-- The law of carried rows, without one of its premises.
use Rattle.std.specs.Prelude.{List, ◌++◌}
use Rattle.relay_row.specs.Journal.{IsJournal}
use Rattle.relay_row.specs.declared.row.Row.{Row}
use Rattle.relay_law.specs.Carried.{AreOfKnown, CarriesOver}
use Rattle.relay_law.specs.Sound.{IsSound}

-- Where a front gives way to other rows, a journal may become unsound ..
pub record CarriedMayBeUnsound : Type 0 where
  -- where it was no journal
  pub journal : ((front others carried : List Row) → IsSound (front ++ others)
      → AreOfKnown front others → CarriesOver front carried → IsSound (carried ++ others)) → ⊥
  -- where it wasn't sound
  pub sound : ((front others carried : List Row) → IsJournal (front ++ others)
      → AreOfKnown front others → CarriesOver front carried → IsSound (carried ++ others)) → ⊥
  -- where a commit behind the front is of an account that was lost
  pub known : ((front others carried : List Row) → IsJournal (front ++ others)
      → IsSound (front ++ others) → CarriesOver front carried → IsSound (carried ++ others)) → ⊥
  -- where those rows don't carry the front over
  pub over : ((front others carried : List Row) → IsJournal (front ++ others)
      → IsSound (front ++ others) → AreOfKnown front others → IsSound (carried ++ others)) → ⊥
