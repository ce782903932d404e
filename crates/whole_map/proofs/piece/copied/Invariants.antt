use Rattle.std.proofs.Common.{◌≡◌, take}
use Rattle.whole_map.proofs.piece.copied.Given as goal

abbrev pub invariant-loop-entry : goal.invariant-loop-entry
invariant-loop-entry l = l.items.items ≡ take l.entry-index l.entries
