use Rattle.std.proofs.Common.{rules}
use Rattle.commit_check.proofs.Ascending.{ascend_told}
use Rattle.commit_check.proofs.fields.paths_ascend.Goals as goal

pub returns : goal.returns
returns c = ascend_told c.args.ops.now c.is_sorted_by.result c.is_sorted_by.ensures.cases (λ a t f k. search rules)
