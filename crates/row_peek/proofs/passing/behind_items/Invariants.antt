use Rattle.std.proofs.Common.{◌≡◌, ◌-◌}
use Rattle.row_peek.specs.Passing.{times, item_behind}
use Rattle.row_peek.proofs.passing.behind_items.Given as goal

abbrev pub invariant-items : goal.invariant-items
invariant-items l = times (l.count - l.counter) item_behind l.rest ≡ times l.count item_behind l.fn.bytes
