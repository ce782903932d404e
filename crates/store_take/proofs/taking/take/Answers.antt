use Rattle.std.proofs.Common.{rules, ◌≡◌, ◌≢◌, ◌∙◌, [], ◌∷◌, Some, None, ⊎_elim, refl, sym, arith}
use Rattle.relay_step.specs.Around.{Around, around_of}
use Rattle.store_take.specs.Batches.{message_from}
use Rattle.relay_store.specs.Store.{seen_in}
use Rattle.relay_store.specs.declared.fault.StoreFault.{StoreFault}
use Rattle.store_take.specs.declared.message.Message.{Message}
use Rattle.store_take.proofs.Batched.{batched, batched_fails_as, batched_none, few_rows, has_rows, of_kept}
use Rattle.store_take.proofs.Commits.{nothing_added, nothing_leaves}
use Rattle.store_take.proofs.Gathers.{at_start, gathering_last, late_not_disk, stops_in_vain, stops_late, vain_not_disk}
use Rattle.store_take.proofs.Rooms.{behind_none}
use Rattle.store_take.proofs.Spent.{late_not_authority, spent_vain}
use Rattle.store_take.proofs.taking.take.Goals as goal

pub returns-in-Err-clause-batched : goal.returns-in-Err-clause-batched
returns-in-Err-clause-batched g c = λ J of. batched_none g.D.Disk.view _ _ _ J _ _ _ _ _ c.args.disk.now _ [] refl (omega arith) (g.met.D.Disk.is_disk c.args.disk.now) of

pub returns-in-Err-prepare-clause-batched : goal.returns-in-Err-prepare-clause-batched
returns-in-Err-prepare-clause-batched g c =
    let a : Around = around_of g.P.Judges.panel g.C.Clock.moments g.R.Repos.repository c.args.asked.now in
    let m : Message = message_from c.args.host.now c.args.message.now in
    let now = at_start g.C.Clock.tells g.R.Repos.tells c.args.store.now.log (m ∷ []) c.args.store.now.core c.args.store.now.window.places c.start.new.self a [] c.in-Ok.ensures refl in
    let made = c.in-Err-prepare.ensures.prepared in
    let st = ⊎_elim
    (λ vain. stops_in_vain _ _ _ _ _ _ _ _ _ _ _ _ _ _ now _ _ _ _ c.in-Err-prepare.fault made.0 c.prepare.ensures.fits vain)
    (λ late. stops_late _ _ _ _ _ _ _ _ _ _ _ _ _ _ now late.0 _ late.1 _ _ _ c.in-Err-prepare.fault made.0 c.prepare.ensures.fits late.2)
    made.1 in
    let not : Some c.in-Err-prepare.fault ≢ Some StoreFault.Disk = ⊎_elim (λ vain. vain_not_disk c.in-Err-prepare.fault vain.of_asking) (λ late. late_not_disk _ _ _ c.in-Err-prepare.fault late.2) made.1 in
    let count : c.prepare.new.pending.count ≡ 0 = made.0.count ∙ c.in-Ok.ensures.count in
    batched _ _ _ _ _ _ _ _ _ _ _ _ _ st c.args.store.now.side g.D.Disk.view g.D.Disk.tells c.args.disk.now c.args.disk.now c.args.store.now.log
    (λ tells J rows has on. nothing_leaves J rows _ _ _ _ on (g.met.D.Disk.is_disk c.args.disk.now)) (refl, refl) (λ none. (refl, refl))
    not (sym (behind_none c.args.store.now.log.end c.prepare.new.pending count)) (λ tells J rows has on. nothing_added J rows _ _ _ _ on (omega (arith, has.count, count)))

pub commit-requires-clause-rows : goal.commit-requires-clause-rows
commit-requires-clause-rows g c =
    let a : Around = around_of g.P.Judges.panel g.C.Clock.moments g.R.Repos.repository c.args.asked.now in
    let m : Message = message_from c.args.host.now c.args.message.now in
    let now = at_start g.C.Clock.tells g.R.Repos.tells c.args.store.now.log (m ∷ []) c.args.store.now.core c.args.store.now.window.places c.start.new.self a [] c.in-Ok.ensures refl in
    let made = c.in-Ok-prepare.ensures.prepared in
    let st = gathering_last _ _ _ _ _ _ _ _ _ _ _ _ _ _ now made.0 _ made.1 _ _ _ c.in-Ok-prepare.outcome made.2 made.3 c.prepare.ensures.fits refl in
    has_rows _ _ _ _ _ _ _ _ _ _ _ _ _ st c.args.store.now.side

pub commit-requires-clause-few : goal.commit-requires-clause-few
commit-requires-clause-few g c =
    let a : Around = around_of g.P.Judges.panel g.C.Clock.moments g.R.Repos.repository c.args.asked.now in
    let m : Message = message_from c.args.host.now c.args.message.now in
    let now = at_start g.C.Clock.tells g.R.Repos.tells c.args.store.now.log (m ∷ []) c.args.store.now.core c.args.store.now.window.places c.start.new.self a [] c.in-Ok.ensures refl in
    let made = c.in-Ok-prepare.ensures.prepared in
    let st = gathering_last _ _ _ _ _ _ _ _ _ _ _ _ _ _ now made.0 _ made.1 _ _ _ c.in-Ok-prepare.outcome made.2 made.3 c.prepare.ensures.fits refl in
    few_rows _ _ _ _ _ _ _ _ _ _ _ _ _ st c.args.store.now.side (omega arith)

pub returns-in-Ok-commit-clause-batched : goal.returns-in-Ok-commit-clause-batched
returns-in-Ok-commit-clause-batched g c =
    let a : Around = around_of g.P.Judges.panel g.C.Clock.moments g.R.Repos.repository c.args.asked.now in
    let m : Message = message_from c.args.host.now c.args.message.now in
    let now = at_start g.C.Clock.tells g.R.Repos.tells c.args.store.now.log (m ∷ []) c.args.store.now.core c.args.store.now.window.places c.start.new.self a [] c.in-Ok.ensures refl in
    let made = c.in-Ok-prepare.ensures.prepared in
    let st = gathering_last _ _ _ _ _ _ _ _ _ _ _ _ _ _ now made.0 _ made.1 _ _ _ c.in-Ok-prepare.outcome made.2 made.3 c.prepare.ensures.fits refl in
    let not : None ≢ Some StoreFault.Disk = λ is. let no : ⊥ = cc in no in
    batched _ _ _ _ _ _ _ _ _ _ _ _ _ st c.args.store.now.side g.D.Disk.view g.D.Disk.tells c.args.disk.now c.commit.new.disk c.commit.new.log
    (λ tells J rows has on. c.commit.ensures.moments tells J rows _ _ has on) c.commit.ensures.format c.commit.ensures.untouched
    not c.in-Ok-commit.ensures.end (λ tells J rows has on. c.in-Ok-commit.ensures.added tells J rows _ _ has on)

pub returns-in-Ok-commit-clause-on : goal.returns-in-Ok-commit-clause-on
returns-in-Ok-commit-clause-on g c = λ not tells.
    let on = c.requires.on tells in
    let done = returns-in-Ok-commit-clause-batched g c on.0 (of_kept (seen_in c.args.store.now) _ on) in
    (_, done.keeps not tells on.1)

pub returns-in-Err-commit-clause-batched : goal.returns-in-Err-commit-clause-batched
returns-in-Err-commit-clause-batched g c =
    let a : Around = around_of g.P.Judges.panel g.C.Clock.moments g.R.Repos.repository c.args.asked.now in
    let m : Message = message_from c.args.host.now c.args.message.now in
    let now = at_start g.C.Clock.tells g.R.Repos.tells c.args.store.now.log (m ∷ []) c.args.store.now.core c.args.store.now.window.places c.start.new.self a [] c.in-Ok.ensures refl in
    let made = c.in-Ok-prepare.ensures.prepared in
    let st = gathering_last _ _ _ _ _ _ _ _ _ _ _ _ _ _ now made.0 _ made.1 _ _ _ c.in-Ok-prepare.outcome made.2 made.3 c.prepare.ensures.fits refl in
    let failed : Some c.in-Err-commit.fault ≡ Some StoreFault.Disk = search rules in
    batched_fails_as _ _ _ _ _ _ _ _ _ _ _ _ _ st c.args.store.now.side g.D.Disk.view g.D.Disk.tells c.args.disk.now c.commit.new.disk c.commit.new.log
    (λ tells J rows has on. c.commit.ensures.moments tells J rows _ _ has on) c.commit.ensures.format c.commit.ensures.untouched
    [] (Some c.in-Err-commit.fault) refl failed

pub returns-in-Err-prepare-clause-clock_steady : goal.returns-in-Err-prepare-clause-clock_steady
returns-in-Err-prepare-clause-clock_steady g c = λ not other. c.in-Err-prepare.ensures.clock_steady (λ is. other cc)

pub returns-in-Err-prepare-clause-repos_steady : goal.returns-in-Err-prepare-clause-repos_steady
returns-in-Err-prepare-clause-repos_steady g c = λ not other. c.in-Err-prepare.ensures.repos_steady (λ is. other cc)

pub returns-in-Err-prepare-clause-unspent : goal.returns-in-Err-prepare-clause-unspent
returns-in-Err-prepare-clause-unspent g c = λ not other. c.in-Err-prepare.ensures.unspent (λ is. other cc)

pub returns-in-Ok-commit-clause-disk_steady : goal.returns-in-Ok-commit-clause-disk_steady
returns-in-Ok-commit-clause-disk_steady g c = λ not. c.in-Ok-commit.ensures.steady

pub returns-in-Ok-commit-clause-clock_steady : goal.returns-in-Ok-commit-clause-clock_steady
returns-in-Ok-commit-clause-clock_steady g c = λ not other. c.in-Ok-prepare.ensures.clock_steady (λ err. absurd cc)

pub returns-in-Ok-commit-clause-repos_steady : goal.returns-in-Ok-commit-clause-repos_steady
returns-in-Ok-commit-clause-repos_steady g c = λ not other. c.in-Ok-prepare.ensures.repos_steady (λ err. absurd cc)

pub returns-in-Ok-commit-clause-unspent : goal.returns-in-Ok-commit-clause-unspent
returns-in-Ok-commit-clause-unspent g c = λ not other. c.in-Ok-prepare.ensures.unspent (λ err. absurd cc)

pub returns-in-Err-commit-clause-disk_steady : goal.returns-in-Err-commit-clause-disk_steady
returns-in-Err-commit-clause-disk_steady g c = λ not.
    let failed : Some c.in-Err-commit.fault ≡ Some StoreFault.Disk = search rules in
    absurd (not failed)

pub returns-in-Err-commit-clause-clock_steady : goal.returns-in-Err-commit-clause-clock_steady
returns-in-Err-commit-clause-clock_steady g c = λ not.
    let failed : Some c.in-Err-commit.fault ≡ Some StoreFault.Disk = search rules in
    absurd (not failed)

pub returns-in-Err-commit-clause-repos_steady : goal.returns-in-Err-commit-clause-repos_steady
returns-in-Err-commit-clause-repos_steady g c = λ not.
    let failed : Some c.in-Err-commit.fault ≡ Some StoreFault.Disk = search rules in
    absurd (not failed)

pub returns-in-Err-commit-clause-unspent : goal.returns-in-Err-commit-clause-unspent
returns-in-Err-commit-clause-unspent g c = λ not.
    let failed : Some c.in-Err-commit.fault ≡ Some StoreFault.Disk = search rules in
    absurd (not failed)

pub returns-in-Err-clause-spent : goal.returns-in-Err-clause-spent
returns-in-Err-clause-spent g c = λ is. let no : ⊥ = cc in absurd no

pub returns-in-Err-prepare-clause-spent : goal.returns-in-Err-prepare-clause-spent
returns-in-Err-prepare-clause-spent g c = λ is.
    let same : c.in-Err-prepare.fault ≡ StoreFault.Authority = cc in
    ⊎_elim
    (λ vain. spent_vain _ _ _ _ _ _ _ _ c.in-Err-prepare.fault vain same)
    (λ late. absurd (late_not_authority _ _ _ c.in-Err-prepare.fault late.2 same))
    c.in-Err-prepare.ensures.prepared.1

pub returns-in-Ok-commit-clause-spent : goal.returns-in-Ok-commit-clause-spent
returns-in-Ok-commit-clause-spent g c = λ is. let no : ⊥ = cc in absurd no

pub returns-in-Err-commit-clause-spent : goal.returns-in-Err-commit-clause-spent
returns-in-Err-commit-clause-spent g c = λ is.
    let failed : Some c.in-Err-commit.fault ≡ Some StoreFault.Disk = search rules in
    let no : ⊥ = cc in
    absurd no

pub returns-in-Err-clause-disk_alone : goal.returns-in-Err-clause-disk_alone
returns-in-Err-clause-disk_alone g c = λ is. let no : ⊥ = cc in absurd no

pub returns-in-Err-prepare-clause-disk_alone : goal.returns-in-Err-prepare-clause-disk_alone
returns-in-Err-prepare-clause-disk_alone g c = λ is.
    absurd (⊎_elim (λ vain. vain_not_disk c.in-Err-prepare.fault vain.of_asking is) (λ late. late_not_disk _ _ _ c.in-Err-prepare.fault late.2 is) c.in-Err-prepare.ensures.prepared.1)

pub returns-in-Ok-commit-clause-disk_alone : goal.returns-in-Ok-commit-clause-disk_alone
returns-in-Ok-commit-clause-disk_alone g c = λ is. let no : ⊥ = cc in absurd no

pub returns-in-Err-commit-clause-disk_alone : goal.returns-in-Err-commit-clause-disk_alone
returns-in-Err-commit-clause-disk_alone g c = λ is. (
  c.in-Ok-prepare.ensures.clock_steady (λ err. absurd cc),
  c.in-Ok-prepare.ensures.repos_steady (λ err. absurd cc),
  c.in-Ok-prepare.ensures.unspent (λ err. absurd cc),
)
