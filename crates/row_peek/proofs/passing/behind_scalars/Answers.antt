use Rattle.std.proofs.Common.{sym}
use Rattle.row_peek.specs.Passing.{scalar_behind, scalars_behind}
use Rattle.row_peek.proofs.Times.{one_passed, none_passed, all_passed}
use Rattle.row_peek.proofs.passing.behind_scalars.Goals as goal

pub returns-in_default : goal.returns-in_default
unfolding scalars_behind
returns-in_default c = sym (none_passed scalar_behind c.args.count c.scalars.counter c.scalars.rest.now _ c.scalars.invariant c.scalars-test.true (sym c.in_default.ensures))

pub scalars-preserved : goal.scalars-preserved
scalars-preserved c = one_passed scalar_behind c.args.count c.scalars.counter c.scalars.rest.now _ c.scalars.invariant c.in-Some.others.now c.scalars-test.true (sym c.in-Some.ensures)

pub returns : goal.returns
unfolding scalars_behind
returns c = sym (all_passed scalar_behind c.args.count c.scalars.counter c.scalars.rest.now _ c.scalars.invariant c.scalars-test.false)
