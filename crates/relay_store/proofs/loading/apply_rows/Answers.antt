use Rattle.std.proofs.Common.{rules, ◌≡◌, Err, refl}
use Rattle.row_codec.specs.declared.fault.RowFault.{RowFault}
use Rattle.relay_store.proofs.RowsApplied.{applying_more, applying_stops, no_rows_were}
use Rattle.relay_store.proofs.loading.apply_rows.Goals as goal

pub returns-in_err-row-clause-bad : goal.returns-in_err-row-clause-bad
returns-in_err-row-clause-bad c = λ is J holds there are journal.
    let failed : c.next.result ≡ Err RowFault.BadRow = search rules in
    no_rows_were _ _ _ _ _ _ _ _ c.rows.invariant c.next.result c.next.new.self c.next.ensures failed there are

pub returns-then-not-is_next-clause-bad : goal.returns-then-not-is_next-clause-bad
returns-then-not-is_next-clause-bad c = λ is J holds there are journal.
    applying_stops _ _ _ _ _ _ _ _ _ _ c.rows.invariant _ c.in_ok-row.ensures c.in-Some.is c.if-not-is_next.ensures J holds there are journal

pub rows-preserved : goal.rows-preserved
rows-preserved c =
    applying_more _ _ _ _ _ _ _ _ _ _ c.rows.invariant _ c.in_ok-row.ensures c.in-Some.is _ _ _ refl c.if-not-is_next.ensures c.in_ok-learn_row.ensures.core c.in_ok-learn_row.ensures.window
