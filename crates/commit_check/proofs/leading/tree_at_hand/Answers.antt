use Rattle.std.proofs.Common.{sym, ◌∙◌, rules}
use Rattle.commit_check.proofs.Roots.{no_view_stops}
use Rattle.commit_check.proofs.leading.tree_at_hand.Goals as goal

pub returns-in_err-view-clause-stops : goal.returns-in_err-view-clause-stops
returns-in_err-view-clause-stops c = λ former.
    let stop = no_view_stops c.args.ops.now c.args.blocks.now former c.args.root.now c.in_err-view.field-0.0 (sym c.is_empty.ensures ∙ c.if-is_empty.false) c.in_err-view.ensures.fault in
    search (rules, stop)
