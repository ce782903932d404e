use Rattle.std.proofs.Common.{◌≡◌, ◌∙◌, Err, inl, sym, ap, subst}
use Rattle.std.proofs.lemmas.Result.{IfOk-weaker}
use Rattle.at_cid.specs.Counts.{Rose}
use Rattle.at_event.specs.Frames.{frame_of}
use Rattle.relay_step.specs.Around.{Around, around_of}
use Rattle.relay_step.specs.Messages.{told_as}
use Rattle.relay_step.specs.declared.fault.StepFault.{StepFault}
use Rattle.relay_store.specs.Faults.{IsRisen}
use Rattle.store_take.specs.Faults.{of_step}
use Rattle.store_take.specs.Taking.{IsInVain, IsTaken}
use Rattle.relay_store.specs.declared.fault.StoreFault.{StoreFault}
use Rattle.store_take.proofs.Turns.{prepared_by, risen_by, risen_of, unchanged_here, vain_of}
use Rattle.store_take.proofs.preparing.prepare.Goals as goal

pub returns-in-Ok-clause-prepared : goal.returns-in-Ok-clause-prepared
returns-in-Ok-clause-prepared g c =
    let a : Around = around_of g.P.Judges.panel g.C.Clock.moments g.R.Repos.repository c.args.asked.now in
    let b : Around = around_of g.P.Judges.panel g.C.Clock.moments g.R.Repos.repository c.decide_message.new.asked in
    let taken : IsTaken g.C.Clock.tells g.R.Repos.tells c.args.core.now c.args.message.host.now c.args.message.bytes.now (told_as c.in-Ok.told) a b = record { decided = c.in-Ok.ensures.told; asked = c.in-Ok.ensures.asked; journal = c.in-Ok.ensures.formed } in
    prepared_by g.C.Clock.tells g.R.Repos.tells c.args.log.now c.args.message.host.now c.args.message.bytes.now _ _ _ _ _ _ a b (told_as c.in-Ok.told) taken c.take_decided.result
    (IfOk-weaker c.take_decided.result _ _ (λ o is. is (frame_of c.args.message.bytes.now) c.in-Ok.ensures.passed) c.take_decided.ensures.ok) c.take_decided.ensures.added c.take_decided.ensures.as_before c.take_decided.ensures.late

pub returns-in-Err-clause-prepared : goal.returns-in-Err-clause-prepared
returns-in-Err-clause-prepared g c =
    let a : Around = around_of g.P.Judges.panel g.C.Clock.moments g.R.Repos.repository c.args.asked.now in
    let b : Around = around_of g.P.Judges.panel g.C.Clock.moments g.R.Repos.repository c.decide_message.new.asked in (
      unchanged_here _ _ _,
      inl (subst (λ (f : StoreFault). IsInVain g.C.Clock.tells g.R.Repos.tells c.args.core.now c.args.core.now c.args.message.host.now c.args.message.bytes.now a b f) (sym c.of_step.ensures)
          (vain_of g.C.Clock.tells g.R.Repos.tells c.args.core.now c.args.message.host.now c.args.message.bytes.now a b _ _ c.in-Err.fault c.in-Err.ensures.in_vain c.in-Err.ensures.caused)),
    )

pub returns-in-Ok-clause-risen : goal.returns-in-Ok-clause-risen
returns-in-Ok-clause-risen g c = risen_by c.args.log.now c.args.pending.now (told_as c.in-Ok.told) _ _ c.take_decided.result c.take_decided.ensures.late

pub returns-in-Err-clause-risen : goal.returns-in-Err-clause-risen
returns-in-Err-clause-risen g c =
    subst (IsRisen (Rose (g.R.Repos.faults c.args.asked.now.repos.now) (g.R.Repos.faults c.decide_message.new.asked.repos.now)) (Rose (g.C.Clock.faults c.args.asked.now.clock.now) (g.C.Clock.faults c.decide_message.new.asked.clock.now))) (sym c.of_step.ensures)
    (risen_of _ _ _ _ c.in-Err.fault c.in-Err.ensures.caused)

pub returns-in-Ok-clause-clock_steady : goal.returns-in-Ok-clause-clock_steady
returns-in-Ok-clause-clock_steady g c = λ other. c.in-Ok.ensures.clock_steady (λ err. absurd cc)

pub returns-in-Err-clause-clock_steady : goal.returns-in-Err-clause-clock_steady
returns-in-Err-clause-clock_steady g c = λ other. c.in-Err.ensures.clock_steady (λ is.
    let same : c.in-Err.fault ≡ StepFault.Clock = cc in
    other (ap Err (c.of_step.ensures ∙ ap of_step same)))

pub returns-in-Ok-clause-repos_steady : goal.returns-in-Ok-clause-repos_steady
returns-in-Ok-clause-repos_steady g c = λ other. c.in-Ok.ensures.repos_steady (λ err. absurd cc)

pub returns-in-Err-clause-repos_steady : goal.returns-in-Err-clause-repos_steady
returns-in-Err-clause-repos_steady g c = λ other. c.in-Err.ensures.repos_steady (λ is.
    let same : c.in-Err.fault ≡ StepFault.Repos = cc in
    other (ap Err (c.of_step.ensures ∙ ap of_step same)))

pub returns-in-Ok-clause-unspent : goal.returns-in-Ok-clause-unspent
returns-in-Ok-clause-unspent g c = λ other. c.in-Ok.ensures.unspent (λ err. absurd cc)

pub returns-in-Err-clause-unspent : goal.returns-in-Err-clause-unspent
returns-in-Err-clause-unspent g c = λ other. c.in-Err.ensures.unspent (λ is.
    let same : c.in-Err.fault ≡ StepFault.Authority = cc in
    other (ap Err (c.of_step.ensures ∙ ap of_step same)))
