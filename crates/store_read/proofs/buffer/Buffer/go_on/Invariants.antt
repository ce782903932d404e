use Rattle.std.proofs.Common.{◌≡◌, ◌≤◌, ◌-◌, true, List, drop}
use Rattle.std.specs.List.{list_all}
use Rattle.row_codec.specs.Bodies.{encoded_rows}
use Rattle.relay_row.specs.Rules.{is_row}
use Rattle.relay_row.specs.declared.row.Row.{Row}
use Rattle.store_read.proofs.buffer.Buffer.go_on.Given as goal

abbrev pub invariant-rows : goal.invariant-rows
invariant-rows l = (l.self.place ≡ l.initial.self.place) × (l.self.index ≤ l.index)
    × ((rows : List Row) → list_all is_row rows ≡ true → l.initial.self.left ≡ encoded_rows (drop l.initial.self.index rows) → l.self.left ≡ encoded_rows (drop l.self.index rows))

abbrev pub decreases-rows : goal.decreases-rows
decreases-rows l = l.index - l.self.index
