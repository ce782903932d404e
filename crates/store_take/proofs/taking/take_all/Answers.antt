use Rattle.std.proofs.Common.{rules, ◌≡◌, Some}
use Rattle.relay_store.specs.Store.{seen_in}
use Rattle.relay_store.specs.declared.fault.StoreFault.{StoreFault}
use Rattle.store_take.proofs.Batched.{answers_all, answers_few, batched, batched_fails_as, batched_none, disk_failed, few_rows, has_rows, of_kept}
use Rattle.store_take.proofs.taking.take_all.Goals as goal

pub commit-requires-clause-rows : goal.commit-requires-clause-rows
commit-requires-clause-rows g c = has_rows _ _ _ _ _ _ _ _ _ _ _ _ _ c.gather-batch.ensures.stopped c.args.store.now.side

pub commit-requires-clause-few : goal.commit-requires-clause-few
commit-requires-clause-few g c = few_rows _ _ _ _ _ _ _ _ _ _ _ _ _ c.gather-batch.ensures.stopped c.args.store.now.side c.requires.few

pub commit-requires-clause-fits : goal.commit-requires-clause-fits
commit-requires-clause-fits g c = c.gather-batch.ensures.stopped.gathered.fits

pub returns-in-Err-clause-batched : goal.returns-in-Err-clause-batched
returns-in-Err-clause-batched g c = λ J of. batched_none g.D.Disk.view _ _ _ J c.args.group.now _ _ _ _ c.args.disk.now _ _ c.new.ensures.items c.requires.some (g.met.D.Disk.is_disk c.args.disk.now) of

pub returns-in-Ok-commit-clause-batched : goal.returns-in-Ok-commit-clause-batched
returns-in-Ok-commit-clause-batched g c =
    batched _ _ _ _ _ _ _ _ _ _ _ _ _ c.gather-batch.ensures.stopped c.args.store.now.side g.D.Disk.view g.D.Disk.tells c.args.disk.now c.commit.new.disk c.commit.new.log
    (λ tells J rows has on. c.commit.ensures.moments tells J rows _ _ has on) c.commit.ensures.format c.commit.ensures.untouched
    c.gather-batch.ensures.no_disk c.in-Ok-commit.ensures.end (λ tells J rows has on. c.in-Ok-commit.ensures.added tells J rows _ _ has on)

pub returns-in-Ok-commit-clause-few : goal.returns-in-Ok-commit-clause-few
returns-in-Ok-commit-clause-few g c = answers_few _ _ _ _ _ _ _ _ _ _ _ _ _ c.gather-batch.ensures.stopped c.args.store.now.side

pub returns-in-Ok-commit-clause-all : goal.returns-in-Ok-commit-clause-all
returns-in-Ok-commit-clause-all g c = answers_all _ _ _ _ _ _ _ _ _ _ _ _ _ c.gather-batch.ensures.stopped c.args.store.now.side

pub returns-in-Ok-commit-clause-on : goal.returns-in-Ok-commit-clause-on
returns-in-Ok-commit-clause-on g c = λ not tells.
    let on = c.requires.on tells in
    let done = returns-in-Ok-commit-clause-batched g c on.0 (of_kept (seen_in c.args.store.now) _ on) in
    (_, done.keeps not tells on.1)

pub returns-in-Err-commit-clause-batched : goal.returns-in-Err-commit-clause-batched
returns-in-Err-commit-clause-batched g c =
    let failed : Some c.in-Err-commit.fault ≡ Some StoreFault.Disk = search rules in
    batched_fails_as _ _ _ _ _ _ _ _ _ _ _ _ _ c.gather-batch.ensures.stopped c.args.store.now.side g.D.Disk.view g.D.Disk.tells c.args.disk.now c.commit.new.disk c.commit.new.log
    (λ tells J rows has on. c.commit.ensures.moments tells J rows _ _ has on) c.commit.ensures.format c.commit.ensures.untouched
    c.new-in-Err-commit.result.items (Some c.in-Err-commit.fault) c.new-in-Err-commit.ensures.items failed

pub returns-in-Ok-commit-clause-disk_steady : goal.returns-in-Ok-commit-clause-disk_steady
returns-in-Ok-commit-clause-disk_steady g c = λ not. c.in-Ok-commit.ensures.steady

pub returns-in-Ok-commit-clause-clock_steady : goal.returns-in-Ok-commit-clause-clock_steady
returns-in-Ok-commit-clause-clock_steady g c = λ not. c.gather-batch.ensures.clock_steady

pub returns-in-Ok-commit-clause-repos_steady : goal.returns-in-Ok-commit-clause-repos_steady
returns-in-Ok-commit-clause-repos_steady g c = λ not. c.gather-batch.ensures.repos_steady

pub returns-in-Ok-commit-clause-unspent : goal.returns-in-Ok-commit-clause-unspent
returns-in-Ok-commit-clause-unspent g c = λ not. c.gather-batch.ensures.unspent

pub returns-in-Err-commit-clause-disk_steady : goal.returns-in-Err-commit-clause-disk_steady
returns-in-Err-commit-clause-disk_steady g c = λ not.
    let failed : Some c.in-Err-commit.fault ≡ Some StoreFault.Disk = search rules in
    absurd (not failed)

pub returns-in-Err-commit-clause-clock_steady : goal.returns-in-Err-commit-clause-clock_steady
returns-in-Err-commit-clause-clock_steady g c = λ not.
    let failed : Some c.in-Err-commit.fault ≡ Some StoreFault.Disk = search rules in
    absurd (not failed)

pub returns-in-Err-commit-clause-repos_steady : goal.returns-in-Err-commit-clause-repos_steady
returns-in-Err-commit-clause-repos_steady g c = λ not.
    let failed : Some c.in-Err-commit.fault ≡ Some StoreFault.Disk = search rules in
    absurd (not failed)

pub returns-in-Err-commit-clause-unspent : goal.returns-in-Err-commit-clause-unspent
returns-in-Err-commit-clause-unspent g c = λ not.
    let failed : Some c.in-Err-commit.fault ≡ Some StoreFault.Disk = search rules in
    absurd (not failed)

pub returns-in-Err-clause-spent : goal.returns-in-Err-clause-spent
returns-in-Err-clause-spent g c = λ is. let no : ⊥ = cc in absurd no

pub returns-in-Err-commit-clause-spent : goal.returns-in-Err-commit-clause-spent
returns-in-Err-commit-clause-spent g c = λ is.
    let failed : Some c.in-Err-commit.fault ≡ Some StoreFault.Disk = search rules in
    let no : ⊥ = cc in
    absurd no

pub returns-in-Err-clause-disk_failed : goal.returns-in-Err-clause-disk_failed
returns-in-Err-clause-disk_failed g c = λ is. let no : ⊥ = cc in absurd no

pub returns-in-Ok-commit-clause-disk_failed : goal.returns-in-Ok-commit-clause-disk_failed
returns-in-Ok-commit-clause-disk_failed g c = λ is. absurd (c.gather-batch.ensures.no_disk is)

pub returns-in-Err-commit-clause-disk_failed : goal.returns-in-Err-commit-clause-disk_failed
returns-in-Err-commit-clause-disk_failed g c = λ is.
    disk_failed _ _ _ _ _ _ _ _ _ _ _ _ _ c.gather-batch.ensures.stopped c.args.store.now.side g.D.Disk.view g.D.Disk.tells c.args.disk.now c.commit.new.disk c.commit.new.log
    (λ tells J rows has on. c.commit.ensures.moments tells J rows _ _ has on) c.commit.ensures.format c.commit.ensures.untouched
    _ (λ clock repos authority. (c.gather-batch.ensures.clock_steady clock, c.gather-batch.ensures.repos_steady repos, c.gather-batch.ensures.unspent authority))
