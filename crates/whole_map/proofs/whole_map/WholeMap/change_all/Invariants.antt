use Rattle.std.proofs.Common.{◌≡◌, drop}
use Rattle.mst_list.specs.Edits.{AreApart}
use Rattle.mst_list.specs.Lists.{Ascends}
use Rattle.whole_map.specs.Turns.{ChangesApply, all_changed}
use Rattle.whole_map.proofs.whole_map.WholeMap.change_all.Given as goal

abbrev pub invariant-loop-op : goal.invariant-loop-op
invariant-loop-op l = record {
  left : all_changed l.self (drop l.op-index l.ops) ≡ all_changed l.initial.self l.ops;
  ascends : Ascends l.self;
  apply : ChangesApply l.self (drop l.op-index l.ops);
  apart : AreApart (drop l.op-index l.ops);
}
