use Rattle.relay_store.specs.Opening.{IsApplying}
use Rattle.relay_store.proofs.loading.apply_rows.Given as goal

abbrev pub invariant-rows : goal.invariant-rows
invariant-rows l = IsApplying l.place l.index l.fn.rows l.rows l.fn.core l.core l.fn.window.places l.window.places

abbrev pub decreases-rows : goal.decreases-rows
decreases-rows l = l.rows.count
