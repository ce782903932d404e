use Rattle.std.proofs.Common.{◌≡◌, ℕ, true, List, Some, None, sym, subst}
use Rattle.account_state.specs.Entries.{Entry, entry, is_before}
use Rattle.account_state.specs.State.{state_of}
use Rattle.account_state.proofs.Next.{if_next, none_next, next_found, next_above, next_least, next_none}
use Rattle.account_state.proofs.accounts.Accounts.next_after.Goals as goal

pub returns-clause-found : goal.returns-clause-found
returns-clause-found c =
    if_next _ c.next_after.result c.as_bytes.result.now c.self.inside.tree.entries c.next_after.ensures (λ (x : Entry). entry c.args.self.now x.0 ≡ Some (state_of x.1))
    (λ x h. subst (λ (es : List Entry). entry es x.0 ≡ Some (state_of x.1)) c.self.view_is (next_found c.as_bytes.result.now c.self.inside.tree.entries x c.self.invariant.0 h))

pub returns-clause-above : goal.returns-clause-above
returns-clause-above c =
    if_next _ c.next_after.result c.as_bytes.result.now c.self.inside.tree.entries c.next_after.ensures (λ (x : Entry). is_before c.args.did.now x.0 ≡ true)
    (λ x h. subst (λ (text : List ℕ). is_before text x.0 ≡ true) c.as_bytes.ensures.value (next_above c.as_bytes.result.now c.self.inside.tree.entries x h))

pub returns-clause-least : goal.returns-clause-least
returns-clause-least c =
    if_next _ c.next_after.result c.as_bytes.result.now c.self.inside.tree.entries c.next_after.ensures
    (λ (x : Entry). (name : List ℕ) → is_before c.args.did.now name ≡ true → is_before name x.0 ≡ true → entry c.args.self.now name ≡ None)
    (λ x h name above below.
    subst (λ (es : List Entry). entry es name ≡ None) c.self.view_is
    (next_least c.as_bytes.result.now c.self.inside.tree.entries x c.self.invariant.0 h name (subst (λ (text : List ℕ). is_before text name ≡ true) (sym c.as_bytes.ensures.value) above) below))

pub returns-clause-none : goal.returns-clause-none
returns-clause-none c = λ nothing name above.
    subst (λ (es : List Entry). entry es name ≡ None) c.self.view_is
    (next_none c.as_bytes.result.now c.self.inside.tree.entries (none_next _ c.next_after.result c.as_bytes.result.now c.self.inside.tree.entries c.next_after.ensures nothing) name (subst (λ (text : List ℕ). is_before text name ≡ true) (sym c.as_bytes.ensures.value) above))
