use Rattle.std.proofs.Common.{sym}
use Rattle.row_peek.specs.Passing.{item_behind, items_behind}
use Rattle.row_peek.proofs.Times.{one_passed, none_passed, all_passed}
use Rattle.row_peek.proofs.passing.behind_items.Goals as goal

pub returns-in_default : goal.returns-in_default
unfolding items_behind
returns-in_default c = sym (none_passed item_behind c.args.count c.items.counter c.items.rest.now _ c.items.invariant c.items-test.true (sym c.in_default.ensures))

pub items-preserved : goal.items-preserved
items-preserved c = one_passed item_behind c.args.count c.items.counter c.items.rest.now _ c.items.invariant c.in-Some.others.now c.items-test.true (sym c.in-Some.ensures)

pub returns : goal.returns
unfolding items_behind
returns c = sym (all_passed item_behind c.args.count c.items.counter c.items.rest.now _ c.items.invariant c.items-test.false)
