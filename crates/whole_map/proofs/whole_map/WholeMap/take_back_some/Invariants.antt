use Rattle.std.proofs.Common.{◌≡◌, ◌≤◌, List, length, take}
use Rattle.mst_list.specs.declared.item.Item.{Item}
use Rattle.mst_list.specs.Edits.{AreApart}
use Rattle.mst_list.specs.Lists.{Ascends, KeysOnly}
use Rattle.mst_list.specs.Maps.{AllApply}
use Rattle.whole_map.specs.Turns.{all_created}
use Rattle.whole_map.proofs.whole_map.WholeMap.take_back_some.Given as goal

abbrev pub invariant-loop-left : goal.invariant-loop-left
invariant-loop-left l = record {
  in_range : l.left ≤ length l.ops;
  back : (s : List Item) → Ascends s → KeysOnly s → AllApply s l.ops → AreApart l.ops → l.initial.self ≡ all_created s (take l.count l.ops) → l.self ≡ all_created s (take l.left l.ops);
}

abbrev pub decreases-loop-left : goal.decreases-loop-left
decreases-loop-left l = l.left
