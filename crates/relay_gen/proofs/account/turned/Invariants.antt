use Rattle.std.proofs.Common.{◌≡◌, ◌≤◌, drop, length, map}
use Rattle.relay_gen.specs.Records.{op_of}
use Rattle.relay_gen.specs.States.{turned_of}
use Rattle.relay_gen.proofs.account.turned.Given as goal

abbrev pub invariant-loop-left : goal.invariant-loop-left
invariant-loop-left l = record {
  low : l.left ≤ length l.changes;
  ops : l.ops ≡ turned_of (map op_of (drop l.left l.changes));
}

abbrev pub decreases-loop-left : goal.decreases-loop-left
decreases-loop-left l = l.left
