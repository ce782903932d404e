use Rattle.std.proofs.Common.{◌≡◌, ◌++◌, take, drop}
use Rattle.mst_node.specs.Trees.{first_part}
use Rattle.mirror.proofs.root.first_part.Given as goal

abbrev pub invariant-loop-i : goal.invariant-loop-i
invariant-loop-i l = take l.i l.items ++ first_part l.layer (drop l.i l.items) ≡ first_part l.layer l.items
