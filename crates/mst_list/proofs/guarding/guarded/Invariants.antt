use Rattle.std.proofs.Common.{◌↔◌, drop}
use Rattle.mst_list.specs.Edits.{IsGuarded}
use Rattle.mst_list.proofs.guarding.guarded.Given as goal

abbrev pub invariant-loop-op : goal.invariant-loop-op
invariant-loop-op l = IsGuarded l.list (drop l.op-index l.op-items) ↔ IsGuarded l.list l.ops
