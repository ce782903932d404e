-- What holds of the accounts of all journals.
use Rattle.std.specs.Prelude.{◌≡◌, ℕ, List, ◌++◌}
use Rattle.relay_row.specs.declared.row.Row.{Row}
use Rattle.relay_row.specs.Folds.{folded}
use Rattle.account_state.specs.Folds.{account_after, account}

-- The account behind a journal in two halves is that of the second half behind the account of the
-- first.
abbrev pub AccountsJoin : Type 0
AccountsJoin = (did : List ℕ) (xs ys : List Row)
    → account did (xs ++ ys) ≡ folded (account_after did) (account did xs) ys
