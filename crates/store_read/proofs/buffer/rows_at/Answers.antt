use Rattle.std.proofs.Common.{◌≡◌, ◌∙◌, ℕ, List, Err, ⊎_elim, ap, drop, subst, sym}
use Rattle.event_window.specs.declared.fault.EventsFault.{EventsFault}
use Rattle.gate_log.specs.declared.fault.LogFault.{LogFault}
use Rattle.row_codec.specs.Bodies.{IsBody, encoded_rows}
use Rattle.store_read.proofs.buffer.rows_at.Goals as goal

pub returns-in-Err-clause-no_bad_log : goal.returns-in-Err-clause-no_bad_log
returns-in-Err-clause-no_bad_log g c = λ p is tells before there after body holds here.
    let bad : c.fault_of.result ≡ EventsFault.BadLog p = cc in
    ⊎_elim
    (λ at. c.read_body.ensures.no_bad_log p (c.in-Err.is ∙ ap Err at) tells before there after holds here)
    (λ full. c.read_body.ensures.no_full p (c.in-Err.is ∙ ap Err full))
    (c.fault_of.ensures.bad_log p bad)

pub returns-in-Err-clause-no_fault : goal.returns-in-Err-clause-no_fault
returns-in-Err-clause-no_fault g c = λ other.
    c.in-Err.ensures.no_fault (λ is.
    let same : c.in-Err.fault ≡ LogFault.Disk = cc in
    let told : c.fault_of.result ≡ EventsFault.Disk = c.fault_of.ensures.disk.1 same in
    other (ap Err told))

pub returns-in-Some-clause-rows : goal.returns-in-Some-clause-rows
returns-in-Some-clause-rows g c = λ tells before there after body holds here.
    let read = c.in-Ok.ensures.body tells before there after body holds here in
    subst (λ (b : List ℕ). drop c.in-Some.at b ≡ encoded_rows there) c.as_slice.ensures.value
    (c.in-Some.ensures.first there (subst (λ (b : List ℕ). IsBody there b) (sym c.as_slice.ensures.value) read.0))

pub returns-in-None-clause-no_bad_log : goal.returns-in-None-clause-no_bad_log
returns-in-None-clause-no_bad_log g c = λ p is tells before there after body holds here.
    let read = c.in-Ok.ensures.body tells before there after body holds here in
    c.first_row.ensures.none c.in-None.is there (subst (λ (b : List ℕ). IsBody there b) (sym c.as_slice.ensures.value) read.0)

pub returns-in-Err-clause-as_read : goal.returns-in-Err-clause-as_read
returns-in-Err-clause-as_read g c = record { goes = c.read_body.ensures.goes; holds = c.read_body.ensures.holds; on = c.read_body.ensures.on }

pub returns-in-Some-clause-as_read : goal.returns-in-Some-clause-as_read
returns-in-Some-clause-as_read g c = record { goes = c.read_body.ensures.goes; holds = c.read_body.ensures.holds; on = c.read_body.ensures.on }

pub returns-in-None-clause-as_read : goal.returns-in-None-clause-as_read
returns-in-None-clause-as_read g c = record { goes = c.read_body.ensures.goes; holds = c.read_body.ensures.holds; on = c.read_body.ensures.on }
