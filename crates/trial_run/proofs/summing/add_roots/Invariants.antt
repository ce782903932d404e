use Rattle.std.proofs.Common.{◌≡◌, ◌≤◌, ◌++◌, List}
use Rattle.relay_core.specs.Entries.{Holds}
use Rattle.relay_row.specs.declared.row.Row.{Row}
use Rattle.trial_run.specs.Summary.{known_below, roots_below}
use Rattle.trial_run.proofs.summing.add_roots.Given as goal

abbrev pub invariant-accounts : goal.invariant-accounts
invariant-accounts l = record {
  few : l.known ≤ l.account;
  known : (J : List Row) → Holds l.store.core J → l.known ≡ known_below l.account J;
  roots : (J : List Row) → Holds l.store.core J → l.roots ≡ l.fn.roots ++ roots_below l.account J;
}
