use Rattle.std.proofs.Common.{◌++◌, ◌∙◌, ⊎_elim, inl, inr, max, arith, subst}
use Rattle.std.specs.Prelude.{Some}
use Rattle.backfill.specs.Served.{served}
use Rattle.backfill.specs.Writing.{IsOfReading}
use Rattle.backfill.specs.declared.replay_fault.ReplayFault.{ReplayFault}
use Rattle.backfill.proofs.Damage.{finished_damage}
use Rattle.backfill.proofs.Upto.{upto_all}
use Rattle.backfill.proofs.Waiting.{adds_all, after_finish, finished_steady}
use Rattle.backfill.proofs.replaying.replay.Goals as goal

pub returns-clause-unbroken : goal.returns-clause-unbroken
returns-clause-unbroken g c = after_finish c.write_served-written.result c.finish.result _ _ _ c.finish.ensures.same c.write_served-written.ensures.unbroken c.finish.ensures.all
    (λ f is of. absurd (subst IsOfReading is of))
    (λ f adds all of told held holds t. ⊎_elim
    (λ whole. inl (adds_all (served held (Some c.args.cursor)) (g.O.Sink.written c.args.out.now) c.new-gathered.result (g.O.Sink.written c.write_served-written.new.out ++ c.write_served-written.new.gathered) (g.O.Sink.written c.finish.new.out)
    c.new-gathered.ensures (adds of told held holds t).0 (whole t)))
    (λ rose. inr (omega (arith, rose, c.write_served-written.ensures.writing.kept)))
    (all of))

pub returns-clause-event_counts : goal.returns-clause-event_counts
returns-clause-event_counts g c = c.write_served-written.ensures.reading.kept

pub returns-clause-disk : goal.returns-clause-disk
returns-clause-disk g c = λ is. ⊎_elim
    (λ same. c.write_served-written.ensures.reading.rose (same ∙ is))
    (λ output. absurd cc)
    (c.finish.ensures.same ReplayFault.Disk is)

pub returns-clause-counts : goal.returns-clause-counts
returns-clause-counts g c = omega (arith, c.write_served-written.ensures.writing.kept, c.finish.ensures.counts)

pub returns-clause-failed : goal.returns-clause-failed
returns-clause-failed g c = λ is. ⊎_elim
    (λ same. omega (arith, c.write_served-written.ensures.writing.rose (same ∙ is), c.finish.ensures.counts))
    (λ rose. omega (arith, rose, c.write_served-written.ensures.writing.kept))
    (c.finish.ensures.failed is)

pub returns-clause-event_steady : goal.returns-clause-event_steady
returns-clause-event_steady g c = λ no. c.write_served-written.ensures.reading.steady (λ is. no (c.finish.ensures.told is))

pub returns-clause-out_steady : goal.returns-clause-out_steady
returns-clause-out_steady g c =
    finished_steady c.write_served-written.result c.finish.result _ _ _ c.finish.ensures.count c.write_served-written.ensures.writing.steady c.finish.ensures.steady

pub returns-clause-memory_steady : goal.returns-clause-memory_steady
returns-clause-memory_steady g c = λ is. ⊎_elim
    (λ same. c.finish.ensures.memory_steady is ∙ c.write_served-written.ensures.writing.steady (λ output. absurd cc))
    (λ output. absurd cc)
    (c.finish.ensures.same ReplayFault.Memory is)

pub returns-clause-upto : goal.returns-clause-upto
returns-clause-upto g c = after_finish c.write_served-written.result c.finish.result _ _ _ c.finish.ensures.same c.write_served-written.ensures.unbroken c.finish.ensures.all
    (λ f is of. absurd (subst IsOfReading is of))
    (λ f adds all of told held holds t low. ⊎_elim
    (λ whole. inl (upto_all (served held (Some c.args.cursor)) held.shown (max c.args.cursor (g.E.Events.given_upto c.write_served-written.new.events)) (g.O.Sink.written c.args.out.now) c.new-gathered.result (g.O.Sink.written c.write_served-written.new.out ++ c.write_served-written.new.gathered) (g.O.Sink.written c.finish.new.out)
    c.new-gathered.ensures ((adds of told held holds t).1 low) (whole t)))
    (λ rose. inr (omega (arith, rose, c.write_served-written.ensures.writing.kept)))
    (all of))

pub returns-clause-damaged : goal.returns-clause-damaged
returns-clause-damaged g c =
    c.write_served-written.ensures.damaged ∙ finished_damage (g.E.Events.damage c.args.events.now) c.write_served-written.result c.finish.result c.finish.ensures.count c.finish.ensures.same c.finish.ensures.damage_told
