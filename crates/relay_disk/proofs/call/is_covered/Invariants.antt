use Rattle.std.proofs.Common.{◌≡◌, false, drop}
use Rattle.relay_disk.specs.Memory.{covered_after}
use Rattle.relay_disk.proofs.call.is_covered.Given as goal

abbrev pub invariant-calls : goal.invariant-calls
invariant-calls l = covered_after l.covered l.place (drop l.call-index l.calls) ≡ covered_after false l.place l.calls
