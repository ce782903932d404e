use Rattle.mst_list.proofs.Laid.{replayed}
use Rattle.mst_node.specs.Trees.{HoldsNode}
use Rattle.mst_law.proofs.laws.replay_law.Goals as goal

pub returns : goal.returns
returns c = λ F s ops w apart agree guard f.
    let r = replayed HoldsNode F s ops w apart agree guard f.is_map f.filled in
    (r.result, r.plays, record { is_map = r.is_map; filled = r.fills })
