-- What the relay's state tells of the accounts of the journal that it stands for.
use Rattle.std.proofs.Common.{◌≡◌, ℕ, Bool, true, false, List, Option, Some, None, refl, sym, ap}
use Rattle.std.specs.Option.{is_some, unwrap_or}
use Rattle.std.specs.Prelude.{if◌then◌else◌}
use Rattle.std.proofs.lemmas.Bool.{true≢false}
use Rattle.relay_row.specs.Folds.{is_named}
use Rattle.relay_row.specs.declared.row.Row.{Row}
use Rattle.account_state.specs.Dids.{named_account}
use Rattle.account_state.specs.Entries.{entry}
use Rattle.account_state.specs.Folds.{account, fresh}
use Rattle.account_state.specs.State.{State}
use Rattle.relay_core.specs.Entries.{Holds}
use Rattle.relay_core.specs.declared.journal_state.Core.{Core}

by_entry : (o : Option State) (named : Bool) (a : State) → is_some o ≡ named → unwrap_or o fresh ≡ a → o ≡ (if named then Some a else None)
by_entry None true a some is = absurd (true≢false (sym some))
by_entry None false a some is = refl
by_entry (Some s) true a some is = ap (λ (x : State). Some x) is
by_entry (Some s) false a some is = absurd (true≢false some)

pub entry_is : (core : Core) (rows : List Row) → Holds core rows → (did : List ℕ) → entry core.accounts did ≡ named_account rows did
entry_is core rows holds did = by_entry (entry core.accounts did) (is_named did rows) (account did rows) (holds.named did) (holds.accounts did)
