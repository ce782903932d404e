use Rattle.std.proofs.Common.{take}
use Rattle.mst_list.specs.Faults.{AllFine}
use Rattle.mst_list.proofs.judging.judge_all.Given as goal

abbrev pub invariant-loop-i : goal.invariant-loop-i
invariant-loop-i l = AllFine l.items (take l.i l.ops)
