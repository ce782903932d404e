use Rattle.mst_whole.proofs.KeptKeys.{keys_of_kept}
use Rattle.mst_whole.proofs.Walked.{fault_given, walks_exactly}
use Rattle.mst_whole.proofs.keeping.walk_kept.Goals as goal

pub returns-clause-whole : goal.returns-clause-whole
returns-clause-whole c = λ blocks k kind. keys_of_kept c.args.kept.now c.args.root.now c.walk_at.result c.ghost_linked.ensures kind c.walk_at.ensures.nodes blocks k

pub returns-clause-fault : goal.returns-clause-fault
returns-clause-fault c = λ blocks k. fault_given blocks c.args.root.now c.walk_at.result (c.walk_at.ensures.walked blocks k)

pub returns-clause-exact : goal.returns-clause-exact
returns-clause-exact c = λ blocks k. walks_exactly blocks c.args.root.now c.walk_at.result (c.walk_at.ensures.walked blocks k)
