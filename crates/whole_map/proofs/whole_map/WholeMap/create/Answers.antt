use Rattle.whole_map.proofs.InTurns.{none_created}
use Rattle.whole_map.proofs.whole_map.WholeMap.create.Goals as goal

pub returns-in-None-None-clause-created : goal.returns-in-None-None-clause-created
returns-in-None-None-clause-created c =
    let op = c.args.op.now in none_created op.key op.was op.now c.args.self.now c.in-None-None.is-0 c.in-None-None.is-1 c.requires
