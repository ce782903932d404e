use Rattle.std.proofs.Common.{◌≡◌, ◌++◌, length}
use Rattle.mst_list.specs.Lists.{Ascends, KeysOnly}
use Rattle.whole_map.specs.Pieces.{AreFilled, flatten}
use Rattle.whole_map.proofs.pieces.cut.Given as goal

abbrev pub invariant-loop-rest : goal.invariant-loop-rest
invariant-loop-rest l = record {
  so_far : flatten l.pieces.items ++ l.rest ≡ l.entries;
  filled : AreFilled l.pieces.items;
  ascends : Ascends l.rest;
  whole : KeysOnly l.rest;
}

abbrev pub decreases-loop-rest : goal.decreases-loop-rest
decreases-loop-rest l = length l.rest
