use Rattle.std.proofs.Common.{rules, ◌≡◌, ◌∙◌, suc, Err, drop, subst}
use Rattle.std.proofs.lemmas.Result.{IfOk-weaker}
use Rattle.event_window.specs.declared.fault.EventsFault.{EventsFault}
use Rattle.store_read.proofs.Buffering.{formed_at, left_at}
use Rattle.relay_store.proofs.InBodies.{each_at}
use Rattle.relay_store.specs.Journals.{AllBodies}
use Rattle.store_read.proofs.finding.copy_shown_at.Goals as goal

pub returns-in_err-refill_to-clause-no_bad_log : goal.returns-in_err-refill_to-clause-no_bad_log
returns-in_err-refill_to-clause-no_bad_log g c = λ p is tells bodies row each holds buffer at.
    let failed : c.refill_to.result ≡ Err (EventsFault.BadLog p) = search rules in
    c.refill_to.ensures.no_bad_log p failed tells bodies row each holds buffer at

pub returns-clause-told : goal.returns-clause-told
returns-clause-told g c = IfOk-weaker c.copy_shown.result _ _
    (λ shown told tells bodies J row each holds of buffer at.
    let there = c.in_ok-refill_to.ensures.there in
    let left = c.refill_to.ensures.fits tells bodies each holds buffer at.before at.rows at.after at.split (there.0 ∙ at.here) in
    told J row _ of (formed_at at.rows c.args.place.index row (each_at at.before at.rows at.after (subst AllBodies at.split each)).formed at.row_at)
    (left_at at.rows _ _ c.args.place.index row left there.1 at.row_at))
    c.copy_shown.ensures.told

pub returns-clause-no_bad_log : goal.returns-clause-no_bad_log
returns-clause-no_bad_log g c = λ p is tells bodies row each holds buffer at.
    let there = c.in_ok-refill_to.ensures.there in
    let left = c.refill_to.ensures.fits tells bodies each holds buffer at.before at.rows at.after at.split (there.0 ∙ at.here) in
    c.copy_shown.ensures.bad_log p is row (drop (suc c.args.place.index) at.rows) (formed_at at.rows c.args.place.index row (each_at at.before at.rows at.after (subst AllBodies at.split each)).formed at.row_at)
    (left_at at.rows _ _ c.args.place.index row left there.1 at.row_at) at.sends
