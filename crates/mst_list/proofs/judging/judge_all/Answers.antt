use Rattle.std.proofs.Common.{add-one, arith}
use Rattle.mst_list.specs.Faults.{Disagrees, IsUncovered}
use Rattle.mst_list.proofs.Firsts.{first_at, fine_more}
use Rattle.mst_list.proofs.judging.judge_all.Goals as goal

pub returns-in-Other-clause-fault : goal.returns-in-Other-clause-fault
returns-in-Other-clause-fault c = first_at Disagrees c.args.items.now c.args.ops.now c.loop-i.i c.index-ops-i.result c.loop-i.invariant (omega arith) c.index-ops-i.is c.in-Other.ensures

pub returns-in-Uncovered-clause-fault : goal.returns-in-Uncovered-clause-fault
returns-in-Uncovered-clause-fault c = first_at IsUncovered c.args.items.now c.args.ops.now c.loop-i.i c.index-ops-i.result c.loop-i.invariant (omega arith) c.index-ops-i.is c.in-Uncovered.ensures

pub loop-i-preserved : goal.loop-i-preserved
loop-i-preserved c = rw add-one (fine_more c.args.items.now c.args.ops.now c.loop-i.i c.index-ops-i.result c.loop-i.invariant (omega arith) c.index-ops-i.is c.in-Fine.ensures)
