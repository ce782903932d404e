use Rattle.std.proofs.Common.{◌≡◌, ℕ, List, IfSome, None, Less, false, sym, subst}
use Rattle.std.specs.String.{string_bytes}
use Rattle.at_cid.specs.Order.{key_cmp}
use Rattle.at_cid.proofs.Order.{cmp_exact}
use Rattle.mirror.specs.State.{is_known}
use Rattle.mirror.proofs.keeping.Mirror.next_after.Goals as goal

same : (c : goal.After-next_behind) → string_bytes c.in-Some.known.now ≡ c.args.did.now
unfolding key_cmp
same c = sym (cmp_exact c.args.did.now (string_bytes c.in-Some.known.now) c.in-Some.ensures.same_key)

pub returns-in-Some-clause-above : goal.returns-in-Some-clause-above
returns-in-Some-clause-above c =
    subst (λ (did : List ℕ). IfSome c.next_behind.result (λ next. key_cmp did next.now ≡ Less)) (same c) c.next_behind.ensures.above

pub returns-in-Some-clause-least : goal.returns-in-Some-clause-least
returns-in-Some-clause-least c =
    subst (λ (did : List ℕ). IfSome c.next_behind.result (λ next. (other : List ℕ) → key_cmp did other ≡ Less → key_cmp other next.now ≡ Less
    → is_known c.args.self.now other ≡ false)) (same c) c.next_behind.ensures.least

pub returns-in-Some-clause-none : goal.returns-in-Some-clause-none
returns-in-Some-clause-none c =
    subst (λ (did : List ℕ). c.next_behind.result ≡ None → (other : List ℕ) → key_cmp did other ≡ Less → is_known c.args.self.now other ≡ false)
    (same c) c.next_behind.ensures.none
