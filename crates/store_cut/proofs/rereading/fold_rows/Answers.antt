use Rattle.std.proofs.Common.{rules, ◌≡◌, [], List, subst}
use Rattle.relay_row.specs.declared.row.Row.{Row}
use Rattle.store_cut.proofs.Recopied.{IsMoving, moving_all, moving_more, moving_none, moving_ordered, moving_stops}
use Rattle.store_cut.proofs.rereading.fold_rows.Goals as goal

pub rows-init : goal.rows-init
rows-init c = moving_none _ _ _ (search rules)

pub rows-preserved : goal.rows-preserved
rows-preserved c = moving_more _ _ _ _ _ _ c.rows.invariant c.in-Some.ensures.items _ c.in_ok-learned.ensures.ok c.if-not-is_next.ensures

pub returns-then-not-is_next-clause-bad_log : goal.returns-then-not-is_next-clause-bad_log
returns-then-not-is_next-clause-bad_log c = λ p is. moving_stops _ _ _ _ _ _ c.rows.invariant c.in-Some.ensures.items c.if-not-is_next.ensures

pub returns-clause-ordered : goal.returns-clause-ordered
returns-clause-ordered c =
    let none : c.rows.left.items ≡ [] = search rules in
    moving_ordered _ _ _ (subst (λ (l : List Row). IsMoving c.args.rows.items l c.args.core.now c.rows.core) none c.rows.invariant)

pub returns-clause-moved : goal.returns-clause-moved
returns-clause-moved c =
    let none : c.rows.left.items ≡ [] = search rules in
    moving_all _ _ _ (subst (λ (l : List Row). IsMoving c.args.rows.items l c.args.core.now c.rows.core) none c.rows.invariant)
