use Rattle.std.proofs.Common.{◌≡◌, drop}
use Rattle.relay_io.specs.Numbering.{from_behind}
use Rattle.relay_io.proofs.memory_feed.place_behind.Given as goal

abbrev pub invariant-loop-i : goal.invariant-loop-i
invariant-loop-i l = from_behind l.cursor (drop l.i l.messages) ≡ from_behind l.cursor l.messages
