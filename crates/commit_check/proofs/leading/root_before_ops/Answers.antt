use Rattle.std.proofs.Common.{List, Option, ap, ◌∙◌, subst, rules}
use Rattle.mst_list.specs.declared.item.Item.{Item}
use Rattle.mst_node.specs.Trees.{root}
use Rattle.commit_check.specs.Linking.{IsAtHand}
use Rattle.commit_check.proofs.Roots.{no_undoing_stops, some_back}
use Rattle.commit_check.proofs.leading.root_before_ops.Goals as goal

pub returns-in_err-before-clause-stops : goal.returns-in_err-before-clause-stops
returns-in_err-before-clause-stops c = λ blocks former held.
    let P : Option (List Item) → Type 0 = λ t. IsAtHand blocks c.args.root.now c.args.ops.now t in
    let stop = no_undoing_stops c.args.ops.now blocks former c.args.root.now c.in-Some.tree c.in_err-before.field-0.0 (subst P c.in-Some.is held) c.in_err-before.ensures.fault in
    search (rules, stop)

pub returns-clause-back : goal.returns-clause-back
returns-clause-back c = λ blocks held.
    let P : Option (List Item) → Type 0 = λ t. IsAtHand blocks c.args.root.now c.args.ops.now t in
    some_back c.args.ops.now blocks c.args.root.now c.in_ok-link.link c.in-Some.tree (subst P c.in-Some.is held) c.in_ok-before.ensures.agree c.in_ok-before.ensures.guarded (c.in_ok-link.ensures ∙ ap root c.in_ok-before.ensures.undone)
