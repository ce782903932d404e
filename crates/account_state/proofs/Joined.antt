-- The account behind a journal in two halves.
use Rattle.std.proofs.Common.{◌≡◌, ℕ, List, ◌++◌}
use Rattle.relay_row.proofs.Journals.{folded_joined}
use Rattle.relay_row.specs.declared.row.Row.{Row}
use Rattle.relay_row.specs.Folds.{folded}
use Rattle.account_state.specs.Folds.{fresh, account_after, account}

pub joined : (did : List ℕ) (xs ys : List Row) → account did (xs ++ ys) ≡ folded (account_after did) (account did xs) ys
unfolding account
joined did xs ys = folded_joined (account_after did) fresh xs ys
