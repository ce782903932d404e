use Rattle.std.proofs.Common.{◌∙◌, refl, sym, ap}
use Rattle.std.specs.Prelude.{option_map}
use Rattle.relay_row.specs.declared.row.Row.{Row}
use Rattle.relay_step.proofs.Others.{recorded_faulty}
use Rattle.relay_step.proofs.deciding.decide_other.Goals as goal

pub returns-clause-told : goal.returns-clause-told
returns-clause-told g c =
    recorded_faulty g.C.Clock.tells c.args.core.now c.args.host.now c.args.frame c.in-Some.row c.in-Done.decision c.in-Ask-Moment.field-0 c.in_ok-ask_moment-in-Ask-Moment.field-0 _ _ (g.C.Clock.moments c.args.clock.now) (g.C.Clock.moments c.ask_moment.new.clock)
    c.requires.other (sym c.next.ensures ∙ c.in-Ask-Moment.is) refl (ap (option_map Row.Taken) (sym c.in-Some.is) ∙ c.in_ok-row.ensures)
    c.in_ok-ask_moment-in-Ask-Moment.ensures.number c.in_ok-ask_moment-in-Ask-Moment.ensures.now
