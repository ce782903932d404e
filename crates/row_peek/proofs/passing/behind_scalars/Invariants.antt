use Rattle.std.proofs.Common.{◌≡◌, ◌-◌}
use Rattle.row_peek.specs.Passing.{times, scalar_behind}
use Rattle.row_peek.proofs.passing.behind_scalars.Given as goal

abbrev pub invariant-scalars : goal.invariant-scalars
invariant-scalars l = times (l.count - l.counter) scalar_behind l.rest ≡ times l.count scalar_behind l.fn.bytes
