use Rattle.std.proofs.Common.{◌≡◌, ◌+◌, ◌*◌, ◌≤◌, drop}
use Rattle.mst_list.specs.Height.{leading_zeros}
use Rattle.mst_list.proofs.heights.leading_zeros.Given as goal

abbrev pub invariant-loop-byte : goal.invariant-loop-byte
invariant-loop-byte l = (l.zeros + leading_zeros (drop l.byte-index l.bytes) ≡ leading_zeros l.bytes) × (l.zeros ≤ 8 * l.byte-index)
