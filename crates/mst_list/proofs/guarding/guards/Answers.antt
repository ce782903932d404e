use Rattle.std.proofs.Common.{◌≡◌, ◌≢◌, ℕ, List, Bool, false, not, Option, Some, None, is_some, refl, sym, ap, ◌∙◌}
use Rattle.mst_list.specs.Edits.{value_at}
use Rattle.mst_list.specs.Faults.{clear_behind}
use Rattle.mst_list.proofs.Firsts.{guard_create, guard_delete}
use Rattle.mst_list.proofs.guarding.guards.Goals as goal

none_of : (o : Option (List ℕ)) (b : Bool) → is_some o ≡ b → b ≡ false → o ≡ None
none_of None b e d = refl
none_of (Some x) b e d = absurd (cc)

some_of : (o : Option (List ℕ)) (b : Bool) → is_some o ≡ not b → b ≡ false → o ≢ None
some_of None b e d = absurd (cc)
some_of (Some x) b e d = λ h. absurd (cc)

pub returns-then-is_none : goal.returns-then-is_none
returns-then-is_none c =
    let F = c.args.items.now in let op = c.args.op.now in
    let is : c.is_clear.result ≡ clear_behind false op.key F = cc in
    let none : op.was ≡ None = none_of op.was (not c.is_none.result) c.is_none.ensures (ap not c.if-is_none.true) in
    rw is (guard_create op.key op.was op.now F none)

pub returns-else-is_some : goal.returns-else-is_some
returns-else-is_some c =
    let F = c.args.items.now in let op = c.args.op.now in
    let is : c.is_clear-else-is_some.result ≡ clear_behind false op.key F = cc in
    let none : op.now ≡ None = none_of op.now (not c.is_none-else-is_none.result) c.is_none-else-is_none.ensures (ap not c.if-is_none-2.true) in
    let some : op.was ≢ None = some_of op.was c.is_none.result c.is_none.ensures c.if-is_none.false in
    let whole : c.value_of.result ≡ value_at op.key F = cc in
    let at : value_at op.key F ≡ None = sym whole ∙ none_of c.value_of.result c.is_some.result (sym c.is_some.ensures) c.if-is_some.false in
    rw is (guard_delete op.key op.was op.now F some none at)
