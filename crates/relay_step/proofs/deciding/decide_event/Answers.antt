use Rattle.std.proofs.Common.{◌∙◌, ap, refl, sym}
use Rattle.at_event.specs.Seen.{Seen}
use Rattle.at_event.proofs.Formed.{events_formed}
use Rattle.relay_step.specs.Around.{around}
use Rattle.relay_step.specs.declared.decided.Skipped.{Skipped}
use Rattle.relay_step.proofs.Vain.{cause_ends, cause_map, if_err, last_fetch, map_err, no_cause, on_err, one_taken, plain_none, same_cause, vain_with}
use Rattle.relay_step.proofs.Losses.{done_ends, done_told, lost_ends, lost_spent, lost_told, pass_told}
use Rattle.relay_step.proofs.deciding.decide_event.Goals as goal

pub ask_all-requires : goal.ask_all-requires
ask_all-requires g c = record { did = (events_formed c.args.event c.ghost_event.ensures).did }

pub take_lost-requires-clause-did : goal.take_lost-requires-clause-did
take_lost-requires-clause-did g c = (events_formed c.args.event c.ghost_event.ensures).did

pub take_lost-requires-clause-time : goal.take_lost-requires-clause-time
take_lost-requires-clause-time g c = (events_formed c.args.event c.ghost_event.ensures).time.short

pub returns-in-Pass-clause-told : goal.returns-in-Pass-clause-told
returns-in-Pass-clause-told g c =
    pass_told g.C.Clock.tells g.R.Repos.tells c.args.core.now c.args.host.now c.args.event c.in_ok-next.answers c.in-Pass.field-0 (Skipped.Old c.event.inside.seq) (ap (λ (e : Seen). Skipped.Old e.seq) c.event.view_is) (around (g.P.Judges.panel c.args.asked.now.judges.now) (g.C.Clock.moments c.args.asked.now.clock.now) (g.R.Repos.repository c.args.asked.now.repos.now))
    (g.P.Judges.panel c.ask_all.new.judges) (g.C.Clock.moments c.ask_all.new.clock) c.in_ok-next.ensures.asked (sym c.in_ok-next.ensures.next ∙ c.in-Pass.is)

pub returns-in-Done-clause-told : goal.returns-in-Done-clause-told
returns-in-Done-clause-told g c =
    done_told g.C.Clock.tells g.R.Repos.tells c.args.core.now c.args.host.now c.args.event c.in_ok-next.answers c.in-Done.decision (around (g.P.Judges.panel c.args.asked.now.judges.now) (g.C.Clock.moments c.args.asked.now.clock.now) (g.R.Repos.repository c.args.asked.now.repos.now))
    (g.P.Judges.panel c.ask_all.new.judges) (g.C.Clock.moments c.ask_all.new.clock) c.take.result c.in_ok-next.ensures.asked (sym c.in_ok-next.ensures.next ∙ c.in-Done.is) c.take.ensures.recorded c.take.ensures.number

pub returns-in-Done-clause-in_vain : goal.returns-in-Done-clause-in_vain
returns-in-Done-clause-in_vain g c =
    on_err c.take.result _ (record {
      judges = vain_with c.args.host.now c.args.event c.in_ok-next.answers (g.P.Judges.panel c.args.asked.now.judges.now) (g.P.Judges.panel c.ask_all.new.judges) (g.P.Judges.panel c.ask_all.new.judges) c.in_ok-next.ensures.asked.calls
          (plain_none (g.P.Judges.panel c.ask_all.new.judges) c.args.event.did);
      moments = λ tells. one_taken (g.C.Clock.moments c.args.asked.now.clock.now) c.in_ok-next.answers.moment (g.C.Clock.moments c.ask_all.new.clock) (c.in_ok-next.ensures.asked.timed tells);
      same = λ tells did. refl;
    })

pub returns-in-Done-clause-caused : goal.returns-in-Done-clause-caused
returns-in-Done-clause-caused g c =
    if_err c.take.result _ _ (λ fault. cause_ends _ _ _ _ _ (λ both.
    done_ends g.C.Clock.tells g.R.Repos.tells c.args.core.now c.args.host.now c.args.event c.in_ok-next.answers c.in-Done.decision (around (g.P.Judges.panel c.args.asked.now.judges.now) (g.C.Clock.moments c.args.asked.now.clock.now) (g.R.Repos.repository c.args.asked.now.repos.now))
    (g.P.Judges.panel c.ask_all.new.judges) (g.C.Clock.moments c.ask_all.new.clock) c.in_ok-next.ensures.asked (sym c.in_ok-next.ensures.next ∙ c.in-Done.is) both.0 both.1) fault) c.take.ensures.caused

pub returns-in-Ask-clause-told : goal.returns-in-Ask-clause-told
returns-in-Ask-clause-told g c =
    lost_told g.C.Clock.tells g.R.Repos.tells c.args.core.now c.args.host.now c.args.event c.in_ok-next.answers (around (g.P.Judges.panel c.args.asked.now.judges.now) (g.C.Clock.moments c.args.asked.now.clock.now) (g.R.Repos.repository c.args.asked.now.repos.now))
    (g.P.Judges.panel c.ask_all.new.judges) (g.C.Clock.moments c.ask_all.new.clock) (g.R.Repos.repository c.take_lost.new.repos) (g.P.Judges.panel c.take_lost.new.judges) c.take_lost.result c.in_ok-next.ensures.asked
    (last_fetch c.in-Ask.field-0 c.in_ok-next.next _ c.in-Ask.is c.in_ok-next.ensures.next c.in_ok-next.ensures.last) c.take_lost.ensures.same c.take_lost.ensures.recorded

pub returns-in-Ask-clause-in_vain : goal.returns-in-Ask-clause-in_vain
returns-in-Ask-clause-in_vain g c =
    map_err c.take_lost.result _ _ (λ plain. record {
      judges = vain_with c.args.host.now c.args.event c.in_ok-next.answers (g.P.Judges.panel c.args.asked.now.judges.now) (g.P.Judges.panel c.ask_all.new.judges) (g.P.Judges.panel c.take_lost.new.judges) c.in_ok-next.ensures.asked.calls plain;
      moments = λ tells. one_taken (g.C.Clock.moments c.args.asked.now.clock.now) c.in_ok-next.answers.moment (g.C.Clock.moments c.ask_all.new.clock) (c.in_ok-next.ensures.asked.timed tells);
      same = c.take_lost.ensures.same;
    }) c.take_lost.ensures.in_vain

pub returns-in-Ask-clause-caused : goal.returns-in-Ask-clause-caused
returns-in-Ask-clause-caused g c =
    let asks = last_fetch c.in-Ask.field-0 c.in_ok-next.next _ c.in-Ask.is c.in_ok-next.ensures.next c.in_ok-next.ensures.last in
    if_err c.take_lost.result _ _ (λ fault. cause_map _ _ _ _ _ _ _ _
    (lost_ends g.C.Clock.tells g.R.Repos.tells c.args.core.now c.args.host.now c.args.event c.in_ok-next.answers (around (g.P.Judges.panel c.args.asked.now.judges.now) (g.C.Clock.moments c.args.asked.now.clock.now) (g.R.Repos.repository c.args.asked.now.repos.now))
    (g.P.Judges.panel c.ask_all.new.judges) (g.C.Clock.moments c.ask_all.new.clock) (g.R.Repos.repository c.take_lost.new.repos) (g.P.Judges.panel c.take_lost.new.judges) c.in_ok-next.ensures.asked asks c.take_lost.ensures.same)
    (lost_spent c.args.core.now c.args.host.now c.args.event c.in_ok-next.answers (g.P.Judges.panel c.take_lost.new.judges) asks) (same_cause _) (no_cause _) fault) c.take_lost.ensures.caused
