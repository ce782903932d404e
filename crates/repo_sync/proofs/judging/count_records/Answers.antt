use Rattle.repo_sync.proofs.Judged.{torn_from}
use Rattle.repo_sync.proofs.judging.count_records.Goals as goal

pub returns-in-Err-clause-torn : goal.returns-in-Err-clause-torn
returns-in-Err-clause-torn c = torn_from c.args.kept.now c.args.root.now c.in-Err.fault c.from.result c.in-Err.ensures.fault c.from.ensures
