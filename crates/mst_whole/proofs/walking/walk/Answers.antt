use Rattle.mst_whole.proofs.Walked.{fault_given, keys_given, walks_exactly}
use Rattle.mst_whole.proofs.walking.walk.Goals as goal

pub returns-clause-whole : goal.returns-clause-whole
returns-clause-whole c = keys_given c.args.blocks.now c.args.root.now c.walk_at.result c.ghost_linked.ensures c.requires c.walk_at.ensures.walked

pub returns-clause-fault : goal.returns-clause-fault
returns-clause-fault c = fault_given c.args.blocks.now c.args.root.now c.walk_at.result c.walk_at.ensures.walked

pub returns-clause-exact : goal.returns-clause-exact
returns-clause-exact c = walks_exactly c.args.blocks.now c.args.root.now c.walk_at.result c.walk_at.ensures.walked
