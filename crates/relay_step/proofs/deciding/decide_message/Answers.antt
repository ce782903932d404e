use Rattle.std.proofs.Common.{Result, Ok, ap, sym, subst, ◌∙◌}
use Rattle.std.specs.Prelude.{IfOk}
use Rattle.std.proofs.lemmas.Bool.{and_from}
use Rattle.at_cbor.proofs.Texts.{typed_string}
use Rattle.at_syntax.specs.Host.{is_host}
use Rattle.relay_row.specs.Rules.{is_text}
use Rattle.at_event.specs.declared.frame.Frame.{Frame}
use Rattle.at_event.specs.declared.frame.FrameFault.{FrameFault}
use Rattle.relay_step.specs.Around.{around}
use Rattle.relay_step.specs.Messages.{IsAskedOf, IsDecided, IsSkippedAs, told_as}
use Rattle.relay_step.proofs.Vain.{if_ok}
use Rattle.relay_step.proofs.Others.{asked_event, asked_other, kept_event, kept_other, skipped_event, skipped_other, decided_as_event, decided_as_other}
use Rattle.relay_step.proofs.Sending.{text_tested}
use Rattle.relay_step.proofs.deciding.decide_message.Goals as goal

abbrev ok : Frame → Result Frame FrameFault
ok frame = Ok frame

pub returns-in-Event-clause-told : goal.returns-in-Event-clause-told
returns-in-Event-clause-told g c =
    let P : Result Frame FrameFault → Type 0 = λ f. IfOk c.decide_event.result (λ t. IsDecided c.args.core.now c.args.host.now f (told_as t)) in
    subst P (sym (c.in-Ok.ensures.exact ∙ ap ok c.in-Event.is)) (if_ok c.decide_event.result _ _ (λ t. decided_as_event g.C.Clock.tells g.R.Repos.tells c.args.core.now c.args.host.now c.in-Event.event t _ _) c.decide_event.ensures.told)

pub returns-in-Event-clause-asked : goal.returns-in-Event-clause-asked
returns-in-Event-clause-asked g c =
    let old = around (g.P.Judges.panel c.args.asked.now.judges.now) (g.C.Clock.moments c.args.asked.now.clock.now) (g.R.Repos.repository c.args.asked.now.repos.now) in
    let new = around (g.P.Judges.panel c.decide_event.new.asked.judges.now) (g.C.Clock.moments c.decide_event.new.asked.clock.now) (g.R.Repos.repository c.decide_event.new.asked.repos.now) in
    let P : Result Frame FrameFault → Type 0 = λ f. IfOk c.decide_event.result (λ t. IsAskedOf g.C.Clock.tells g.R.Repos.tells c.args.core.now old c.args.host.now f (told_as t) new) in
    subst P (sym (c.in-Ok.ensures.exact ∙ ap ok c.in-Event.is)) (if_ok c.decide_event.result _ _ (λ t. asked_event g.C.Clock.tells g.R.Repos.tells c.args.core.now c.args.host.now c.in-Event.event t old new) c.decide_event.ensures.told)

pub returns-in-Event-clause-passed : goal.returns-in-Event-clause-passed
returns-in-Event-clause-passed g c =
    let P : Result Frame FrameFault → Type 0 = λ f. IfOk c.decide_event.result (IsSkippedAs f) in
    subst P (sym (c.in-Ok.ensures.exact ∙ ap ok c.in-Event.is)) (if_ok c.decide_event.result _ _ (λ t. skipped_event g.C.Clock.tells g.R.Repos.tells c.args.core.now c.args.host.now c.in-Event.event t _ _) c.decide_event.ensures.told)

pub returns-in-Faulty-clause-passed : goal.returns-in-Faulty-clause-passed
returns-in-Faulty-clause-passed g c =
    let P : Result Frame FrameFault → Type 0 = λ f. IfOk c.decide_other.result (IsSkippedAs f) in
    subst P (sym c.in-Ok.ensures.exact) (if_ok c.decide_other.result _ _ (λ t. skipped_other g.C.Clock.tells c.args.core.now c.args.host.now c.in-Ok.frame t (g.C.Clock.moments c.args.asked.now.clock.now) (g.C.Clock.moments c.decide_other.new.clock)) c.decide_other.ensures.told)

pub returns-in-Faulty-clause-told : goal.returns-in-Faulty-clause-told
returns-in-Faulty-clause-told g c =
    let P : Result Frame FrameFault → Type 0 = λ f. IfOk c.decide_other.result (λ t. IsDecided c.args.core.now c.args.host.now f (told_as t)) in
    subst P (sym c.in-Ok.ensures.exact) (if_ok c.decide_other.result _ _ (λ t. decided_as_other g.C.Clock.tells c.args.core.now c.args.host.now c.in-Ok.frame t (g.C.Clock.moments c.args.asked.now.clock.now) (g.C.Clock.moments c.decide_other.new.clock)) c.decide_other.ensures.told)

pub returns-in-Event-clause-formed : goal.returns-in-Event-clause-formed
returns-in-Event-clause-formed g c =
    let named = and_from (is_text c.args.host.now) (is_host c.args.host.now) (text_tested c.args.host.now (typed_string c.args.host.now c.ghost_text.ensures.bytes c.ghost_text.ensures.length) c.ghost_text.ensures.utf8) c.requires.host in
    if_ok c.decide_event.result _ _ (λ t is. kept_event g.C.Clock.tells g.R.Repos.tells c.args.core.now c.args.host.now c.in-Event.event t _ _ is c.made_rows_are_formed.ensures c.ghost_event.ensures named) c.decide_event.ensures.told

pub returns-in-Faulty-clause-formed : goal.returns-in-Faulty-clause-formed
returns-in-Faulty-clause-formed g c =
    let named = and_from (is_text c.args.host.now) (is_host c.args.host.now) (text_tested c.args.host.now (typed_string c.args.host.now c.ghost_text.ensures.bytes c.ghost_text.ensures.length) c.ghost_text.ensures.utf8) c.requires.host in
    if_ok c.decide_other.result _ _ (λ t is. kept_other g.C.Clock.tells c.args.core.now c.args.host.now c.in-Ok.frame t (g.C.Clock.moments c.args.asked.now.clock.now) (g.C.Clock.moments c.decide_other.new.clock) is c.made_rows_are_formed.ensures c.in-Ok.ensures.formed named) c.decide_other.ensures.told

pub returns-in-Faulty-clause-asked : goal.returns-in-Faulty-clause-asked
returns-in-Faulty-clause-asked g c =
    let old = around (g.P.Judges.panel c.args.asked.now.judges.now) (g.C.Clock.moments c.args.asked.now.clock.now) (g.R.Repos.repository c.args.asked.now.repos.now) in
    let new = around (g.P.Judges.panel c.args.asked.now.judges.now) (g.C.Clock.moments c.decide_other.new.clock) (g.R.Repos.repository c.args.asked.now.repos.now) in
    let P : Result Frame FrameFault → Type 0 = λ f. IfOk c.decide_other.result (λ t. IsAskedOf g.C.Clock.tells g.R.Repos.tells c.args.core.now old c.args.host.now f (told_as t) new) in
    subst P (sym c.in-Ok.ensures.exact) (if_ok c.decide_other.result _ _ (λ t. asked_other g.C.Clock.tells g.R.Repos.tells c.args.core.now c.args.host.now c.in-Ok.frame t (g.P.Judges.panel c.args.asked.now.judges.now) (g.C.Clock.moments c.args.asked.now.clock.now) (g.C.Clock.moments c.decide_other.new.clock) (g.R.Repos.repository c.args.asked.now.repos.now)) c.decide_other.ensures.told)
