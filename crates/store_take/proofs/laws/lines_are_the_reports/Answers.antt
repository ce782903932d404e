use Rattle.store_take.proofs.Linework.{lines_report}
use Rattle.store_take.proofs.laws.lines_are_the_reports.Goals as goal

pub returns : goal.returns
returns c = lines_report
