use Rattle.std.proofs.Common.{rules, ◌≡◌, ◌∙◌, List, Err, arith, subst, sym}
use Rattle.std.proofs.lemmas.Option.{slice_get_within}
use Rattle.event_window.specs.declared.fault.EventsFault.{EventsFault}
use Rattle.gate_log.specs.Log.{HoldsBodies as HasBodies}
use Rattle.relay_row.specs.declared.row.Row.{Row}
use Rattle.relay_store.specs.Journals.{AllBodies, bytes_of}
use Rattle.relay_store.proofs.InBodies.{each_at}
use Rattle.store_read.proofs.finding.refill_to.Goals as goal

pub returns-in_err-refill_body-clause-no_bad_log : goal.returns-in_err-refill_body-clause-no_bad_log
returns-in_err-refill_body-clause-no_bad_log g c = λ p is tells bodies row each holds buffer at.
    let failed : c.refill_body.result ≡ Err (EventsFault.BadLog p) = search rules in
    c.refill_body.ensures.no_bad_log p failed tells at.before at.rows at.after (each_at at.before at.rows at.after (subst AllBodies at.split each))
    (subst (λ (bs : List (List Row)). HasBodies (bytes_of bs) c.args.log.now (g.D.Disk.view c.args.disk.now)) at.split holds) at.here

pub returns-then-not-go_on-clause-fits : goal.returns-then-not-go_on-clause-fits
returns-then-not-go_on-clause-fits g c = λ tells bodies each holds buffer before there after split here.
    let fits = c.refill_body.ensures.fits tells bodies each holds buffer before there after split (sym c.go_on.ensures.place ∙ here) in
    (c.go_on.ensures.rows there (each_at before there after (subst AllBodies split each)).formed fits).0

pub returns-then-not-go_on-clause-no_bad_log : goal.returns-then-not-go_on-clause-no_bad_log
returns-then-not-go_on-clause-no_bad_log g c = λ p is tells bodies row each holds buffer at.
    let fits = c.refill_body.ensures.fits tells bodies each holds buffer at.before at.rows at.after at.split (c.in_ok-refill_body.ensures.there.0 ∙ at.here) in
    let few = (c.go_on.ensures.rows at.rows (each_at at.before at.rows at.after (subst AllBodies at.split each)).formed fits).1 c.if-not-go_on.true in
    omega (arith, few, slice_get_within at.rows c.args.place.index row at.row_at)

pub returns-clause-fits : goal.returns-clause-fits
returns-clause-fits g c = λ tells bodies each holds buffer before there after split here.
    let fits = c.refill_body.ensures.fits tells bodies each holds buffer before there after split (sym c.go_on.ensures.place ∙ here) in
    (c.go_on.ensures.rows there (each_at before there after (subst AllBodies split each)).formed fits).0
