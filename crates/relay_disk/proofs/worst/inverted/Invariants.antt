use Rattle.std.proofs.Common.{◌≡◌, ◌++◌, drop}
use Rattle.relay_disk.specs.Memory.{inverted_from}
use Rattle.relay_disk.proofs.worst.inverted.Given as goal

abbrev pub invariant-bytes : goal.invariant-bytes
invariant-bytes l = l.image.items ++ inverted_from l.i l.calls (drop l.i l.bytes) ≡ inverted_from 0 l.calls l.bytes
