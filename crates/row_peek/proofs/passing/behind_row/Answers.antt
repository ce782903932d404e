use Rattle.std.proofs.Common.{ap, ◌∙◌}
use Rattle.row_peek.specs.Passing.{row_behind}
use Rattle.row_peek.proofs.Rows.{row_passed}
use Rattle.row_peek.proofs.passing.behind_row.Goals as goal

pub returns : goal.returns
returns c row rest is e = c.behind_list.ensures ∙ (ap row_behind e ∙ row_passed row rest is)
