-- What the relay's state tells of the accounts of the journal that it stands for.
use Rattle.std.proofs.Common.{◌≡◌, ℕ, true, List, Option, Some, None, refl, sym, ap, ◌∙◌}
use Rattle.std.specs.Option.{is_some, unwrap_or}
use Rattle.relay_row.specs.Folds.{is_named}
use Rattle.relay_row.specs.declared.row.Row.{Row}
use Rattle.account_state.specs.Entries.{entry}
use Rattle.account_state.specs.Folds.{account, fresh}
use Rattle.account_state.specs.State.{State}
use Rattle.relay_core.specs.Entries.{Holds}
use Rattle.relay_core.specs.declared.journal_state.Core.{Core}
use Rattle.relay_query.specs.Accounts.{is_repo_good}
use Rattle.relay_query.specs.Seen.{has_good, is_listed}

listed_by : (o : Option State) → is_listed o ≡ is_repo_good (unwrap_or o fresh).repo
listed_by None = refl
listed_by (Some a) = refl

-- of a DID that no row names, neither the state nor the journal knows a repository
pub good_is : (core : Core) (rows : List Row) → Holds core rows → (did : List ℕ) → has_good core did ≡ is_repo_good (account did rows).repo
good_is core rows holds did = listed_by (entry core.accounts did) ∙ ap (λ (a : State). is_repo_good a.repo) (holds.accounts did)

pub named_is : (core : Core) (rows : List Row) → Holds core rows → (did : List ℕ) (a : State) → entry core.accounts did ≡ Some a → is_named did rows ≡ true
named_is core rows holds did a is = sym (holds.named did) ∙ ap is_some is

pub account_is : (core : Core) (rows : List Row) → Holds core rows → (did : List ℕ) (a : State) → entry core.accounts did ≡ Some a → account did rows ≡ a
account_is core rows holds did a is = sym (holds.accounts did) ∙ ap (λ (o : Option State). unwrap_or o fresh) is
