use Rattle.std.proofs.Common.{◌<◌, ℕ, List}
use Rattle.relay_core.specs.Entries.{Holds}
use Rattle.relay_row.specs.declared.row.Row.{Row}
use Rattle.trial_run.specs.Summary.{IsShownSame}
use Rattle.trial_run.proofs.summing.are_same.Given as goal

abbrev pub invariant-loop-account : goal.invariant-loop-account
invariant-loop-account l = (J K : List Row) → Holds l.one.core J → Holds l.other.core K → (a : ℕ) → a < l.account → IsShownSame a J K
