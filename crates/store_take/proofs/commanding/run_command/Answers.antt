use Rattle.std.proofs.Common.{rules, ◌≡◌, [], Some, Err, ap, arith, subst}
use Rattle.std.proofs.lemmas.Option.{same_Some}
use Rattle.relay_step.specs.Commands.{rows_commanded}
use Rattle.store_take.specs.Commands.{IsOfCommand}
use Rattle.relay_store.specs.declared.fault.StoreFault.{StoreFault}
use Rattle.store_take.proofs.CommandDone.{disk_running, late_running, commanded_few, worded_fails_as, worded_late, worded_ok}
use Rattle.store_take.proofs.commanding.run_command.Goals as goal

pub commit-requires-clause-rows : goal.commit-requires-clause-rows
commit-requires-clause-rows g c = (rows_commanded c.args.command, c.in-Ok.ensures.added.pending [] c.requires.rows)

pub commit-requires-clause-few : goal.commit-requires-clause-few
commit-requires-clause-few g c =
    let has = c.in-Ok.ensures.added.pending [] c.requires.rows in
    omega (arith, has.count, commanded_few c.args.command)

pub returns-in-Err-clause-commanded : goal.returns-in-Err-clause-commanded
returns-in-Err-clause-commanded g c = λ J of journal.
    worded_late g.D.Disk.view g.D.Disk.tells J c.args.command c.args.store.now.log c.args.store.now.side c.args.store.now.core c.args.store.now.window.places c.args.store.now.pending c.requires.rows of c.args.disk.now
    _ _ _ c.in-Err.fault (g.met.D.Disk.is_disk c.args.disk.now) c.in-Err.ensures.as_before c.in-Err.ensures.late

pub returns-in-Err-clause-few : goal.returns-in-Err-clause-few
returns-in-Err-clause-few g c = λ f is.
    let same : c.in-Err.fault ≡ f = cc in
    subst IsOfCommand same (late_running _ _ _ c.in-Err.fault c.in-Err.ensures.late)

pub returns-in-Err-commit-clause-few : goal.returns-in-Err-commit-clause-few
returns-in-Err-commit-clause-few g c = λ f is.
    let failed : Some c.in-Err-commit.fault ≡ Some StoreFault.Disk = search rules in
    let same : c.in-Err-commit.fault ≡ f = cc in
    subst IsOfCommand same (disk_running c.in-Err-commit.fault (same_Some _ _ failed))

pub returns-in-Ok-commit-clause-commanded : goal.returns-in-Ok-commit-clause-commanded
returns-in-Ok-commit-clause-commanded g c = λ J of journal.
    worded_ok g.D.Disk.view g.D.Disk.tells J c.args.command c.args.store.now.log c.args.store.now.side c.args.store.now.core c.args.store.now.window.places c.args.store.now.pending c.requires.rows of c.args.disk.now
    journal _ _ _ c.in-Ok.ensures.added c.commit.new.disk c.commit.new.log c.take_command.ensures.fits (λ tells K rows has on. c.commit.ensures.moments tells K rows _ _ has on) c.commit.ensures.format
    c.in-Ok.done c.in-Ok.ensures.ok c.commit.ensures.untouched c.in-Ok-commit.ensures.end (λ tells K rows has on. c.in-Ok-commit.ensures.added tells K rows _ _ has on)

pub returns-in-Err-commit-clause-commanded : goal.returns-in-Err-commit-clause-commanded
returns-in-Err-commit-clause-commanded g c = λ J of journal.
    let failed : Some c.in-Err-commit.fault ≡ Some StoreFault.Disk = search rules in
    worded_fails_as g.D.Disk.view g.D.Disk.tells J c.args.command c.args.store.now.log c.args.store.now.side c.args.store.now.core c.args.store.now.window.places c.args.store.now.pending c.requires.rows of c.args.disk.now
    journal _ _ _ c.in-Ok.ensures.added c.commit.new.disk c.commit.new.log c.take_command.ensures.fits (λ tells K rows has on. c.commit.ensures.moments tells K rows _ _ has on) c.commit.ensures.format
    c.in-Err-commit.fault (same_Some _ _ failed)

pub returns-in-Ok-commit-clause-disk_steady : goal.returns-in-Ok-commit-clause-disk_steady
returns-in-Ok-commit-clause-disk_steady g c = λ other. c.in-Ok-commit.ensures.steady

pub returns-in-Err-commit-clause-disk_steady : goal.returns-in-Err-commit-clause-disk_steady
returns-in-Err-commit-clause-disk_steady g c = λ other.
    let failed : Some c.in-Err-commit.fault ≡ Some StoreFault.Disk = search rules in
    absurd (other (ap Err (same_Some _ _ failed)))
