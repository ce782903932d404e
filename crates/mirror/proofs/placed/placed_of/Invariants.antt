use Rattle.std.proofs.Common.{◌≡◌, take}
use Rattle.whole_map.specs.Pieces.{flatten}
use Rattle.mirror.proofs.placed.placed_of.Given as goal

abbrev pub invariant-loop-piece : goal.invariant-loop-piece
invariant-loop-piece l = l.placed.items ≡ flatten (take l.piece-index l.piece-items)
