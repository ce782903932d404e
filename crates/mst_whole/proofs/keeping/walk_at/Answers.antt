use Rattle.mst_whole.proofs.Keeps.{kept_ok, kept_given}
use Rattle.mst_whole.proofs.keeping.walk_at.Goals as goal

pub returns-in-Ok-clause-walked : goal.returns-in-Ok-clause-walked
returns-in-Ok-clause-walked c = λ blocks k. kept_ok c.args.kept.now c.args.root c.in-Ok.keys c.in-Ok.ensures.gives blocks k

pub returns-in-Err-clause-walked : goal.returns-in-Err-clause-walked
returns-in-Err-clause-walked c = λ blocks k. rw c.fault_of.ensures (kept_given c.args.kept.now c.args.root c.in-Err.fault c.in-Err.ensures.gives blocks k)
