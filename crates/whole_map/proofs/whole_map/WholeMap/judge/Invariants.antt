use Rattle.std.proofs.Common.{take}
use Rattle.mst_list.specs.Maps.{AllApply}
use Rattle.whole_map.proofs.whole_map.WholeMap.judge.Given as goal

abbrev pub invariant-loop-i : goal.invariant-loop-i
invariant-loop-i l = AllApply l.self (take l.i l.ops)
