use Rattle.std.proofs.Common.{◌≡◌, ◌∙◌, ◌<◌, true, ℕ, List, Result, Err, length, ap, arith, subst, sym}
use Rattle.std.specs.List.{list_all}
use Rattle.gate_log.specs.declared.limits.TheConstants.{BODY_LENGTHS}
use Rattle.row_codec.specs.Answers.{ReadsBody}
use Rattle.row_codec.specs.Bodies.{IsBody, rows_body}
use Rattle.relay_row.specs.Rules.{is_row}
use Rattle.row_codec.specs.declared.fault.RowFault.{RowFault}
use Rattle.relay_row.specs.declared.row.Row.{Row}
use Rattle.row_codec.proofs.Bodies.{same_rows}
use Rattle.store_cut.specs.Rewriting.{AllShort}
use Rattle.relay_store.specs.declared.fault.StoreFault.{StoreFault}
use Rattle.relay_store.proofs.Opened.{log_bad}
use Rattle.store_cut.proofs.Shorts.{body_short}
use Rattle.store_cut.proofs.rereading.body_at.Goals as goal

pub returns-in-Err-clause-no_bad_log : goal.returns-in-Err-clause-no_bad_log
returns-in-Err-clause-no_bad_log g c = λ p is tells before there after body holds here.
    let bad : c.from.result ≡ StoreFault.BadLog p = cc in
    c.read_body.ensures.no_bad_log p (c.in-Err.is ∙ ap Err (log_bad c.in-Err.fault p (sym c.from.ensures ∙ bad))) tells before there after holds here

pub returns-in-Ok-read_rows-clause-rows : goal.returns-in-Ok-read_rows-clause-rows
returns-in-Ok-read_rows-clause-rows g c = λ tells before there after body holds here.
    let read = c.in-Ok.ensures.body tells before there after body holds here in
    let is = subst (λ (b : List ℕ). IsBody there b) (sym c.as_slice.ensures.value) read.0 in
    (c.into_vec.ensures ∙ same_rows c.in-Ok-read_rows.rows there c.as_slice.result.now c.in-Ok-read_rows.ensures is, read.1)

pub returns-in-Err-BadRow-clause-no_bad_log : goal.returns-in-Err-BadRow-clause-no_bad_log
returns-in-Err-BadRow-clause-no_bad_log g c = λ p is tells before there after body holds here.
    let read = c.in-Ok.ensures.body tells before there after body holds here in
    let bad = subst (λ (r : Result (List Row) RowFault). ReadsBody r c.as_slice.result.now) (c.in-Err-BadRow.is ∙ ap Err c.in-Err-BadRow.field-0-is) c.read_rows.ensures in
    bad there (subst (λ (b : List ℕ). IsBody there b) (sym c.as_slice.ensures.value) read.0)

pub returns-in-Ok-read_rows-clause-formed : goal.returns-in-Ok-read_rows-clause-formed
returns-in-Ok-read_rows-clause-formed g c = subst (λ (l : List Row). list_all is_row l ≡ true) (sym c.into_vec.ensures) c.in-Ok-read_rows.ensures.formed

pub returns-in-Ok-read_rows-clause-each : goal.returns-in-Ok-read_rows-clause-each
returns-in-Ok-read_rows-clause-each g c =
    let rows = c.in-Ok-read_rows.rows in
    let is : IsBody rows c.as_slice.result.now = c.in-Ok-read_rows.ensures in
    let short : length (rows_body rows) < BODY_LENGTHS = omega (arith, c.in-Ok.ensures.short, ap length is.made, ap length c.as_slice.ensures.value) in
    subst AllShort (sym c.into_vec.ensures) (body_short rows short)
