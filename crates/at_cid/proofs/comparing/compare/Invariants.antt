use Rattle.std.proofs.Common.{◌≡◌, ◌*◌, drop}
use Rattle.at_cid.specs.Order.{key_cmp}
use Rattle.at_cid.proofs.comparing.compare.Given as goal

abbrev pub invariant-loop-i : goal.invariant-loop-i
invariant-loop-i l = key_cmp (drop (l.i * 8) l.left) (drop (l.i * 8) l.right) ≡ key_cmp l.left l.right
