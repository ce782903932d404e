use Rattle.std.proofs.Common.{ap, ◌∙◌}
use Rattle.row_peek.specs.Passing.{ended_row}
use Rattle.row_peek.proofs.Ends.{row_ends}
use Rattle.row_peek.proofs.passing.behind_ended_row.Goals as goal

pub returns-clause-row : goal.returns-clause-row
returns-clause-row c = λ row more is e. c.behind_ended_list.ensures ∙ (ap ended_row e ∙ row_ends row more is)
