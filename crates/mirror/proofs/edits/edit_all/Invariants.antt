use Rattle.std.proofs.Common.{◌≡◌, ◌++◌, map, drop}
use Rattle.std.specs.List.{list_all}
use Rattle.commit_check.specs.Step.{edit_of}
use Rattle.mst_list.specs.Edits.{AreFormedOps}
use Rattle.mirror.specs.Held.{is_edit}
use Rattle.mirror.proofs.edits.edit_all.Given as goal

abbrev pub invariant-loop-op : goal.invariant-loop-op
invariant-loop-op l = record {
  made : l.made ++ map edit_of (drop l.op-index l.ops) ≡ map edit_of l.ops;
  stated : list_all is_edit (drop l.op-index l.ops) ≡ list_all is_edit l.ops;
  formed : AreFormedOps (map edit_of l.ops) → AreFormedOps (map edit_of (drop l.op-index l.ops));
}
