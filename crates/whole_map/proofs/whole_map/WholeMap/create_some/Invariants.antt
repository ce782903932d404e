use Rattle.std.proofs.Common.{◌≡◌, take, drop}
use Rattle.mst_list.specs.Edits.{AreApart}
use Rattle.mst_list.specs.Lists.{Ascends}
use Rattle.mst_list.specs.Maps.{AllApply}
use Rattle.whole_map.specs.Turns.{all_created}
use Rattle.whole_map.proofs.whole_map.WholeMap.create_some.Given as goal

abbrev pub invariant-loop-i : goal.invariant-loop-i
invariant-loop-i l = record {
  created : l.self ≡ all_created l.initial.self (take l.i l.ops);
  ascends : Ascends l.self;
  apply : AllApply l.self (drop l.i l.ops);
  apart : AreApart (drop l.i l.ops);
}
