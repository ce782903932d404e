use Rattle.std.proofs.Common.{ap, ◌∙◌}
use Rattle.at_event.specs.Seen.{Seen}
use Rattle.at_event.specs.declared.frame.Frame.{Frame}
use Rattle.relay_core.specs.Entries.{account_in, cursor_in}
use Rattle.relay_core.specs.declared.answers.Question.{Question}
use Rattle.relay_step.proofs.Vain.{on_err, plain_failed, plain_failed_as}
use Rattle.relay_step.proofs.Tidy.{asks_as, home_asked, home_call, home_falls, judges_opened, link_asked, link_falls, linked_beside, links_commit, links_opened, moment_asked, moment_falls, open_asked, open_falls, opened_beside, opened_seen, read_of, refresh_asked, refresh_call, refresh_falls, verdict_asked, verdict_falls}
use Rattle.relay_step.proofs.asking.ask_one.Goals as goal

pub returns-in_err-ask_refresh-in-Refresh-clause-in_vain : goal.returns-in_err-ask_refresh-in-Refresh-clause-in_vain
returns-in_err-ask_refresh-in-Refresh-clause-in_vain g c =
    on_err c.from_residual-in_err-ask_refresh-in-Refresh.result _ (plain_failed_as (g.P.Judges.panel c.args.judges.now) (g.P.Judges.panel c.ask_refresh.new.judges) c.args.inquiry.now.event.now.did c.as_str-did.result.now (c.as_str-did.ensures.value ∙ ap (λ (e : Seen). e.did) c.event.view_is) c.in_err-ask_refresh-in-Refresh.ensures.call)

pub returns-in_err-is_home-in-Home-clause-in_vain : goal.returns-in_err-is_home-in-Home-clause-in_vain
returns-in_err-is_home-in-Home-clause-in_vain g c =
    on_err c.from_residual-in_err-is_home-in-Home.result _ (plain_failed_as (g.P.Judges.panel c.args.judges.now) (g.P.Judges.panel c.ask_home.new.judges) c.args.inquiry.now.event.now.did c.as_str-did.result.now (c.as_str-did.ensures.value ∙ ap (λ (e : Seen). e.did) c.event.view_is) c.in_err-is_home-in-Home.ensures.call)

pub returns-in_err-good-in-Verdict-clause-in_vain : goal.returns-in_err-good-in-Verdict-clause-in_vain
returns-in_err-good-in-Verdict-clause-in_vain g c =
    on_err c.from_residual-in_err-good-in-Verdict.result _ (plain_failed (g.P.Judges.panel c.args.judges.now) (g.P.Judges.panel c.judge.new.judges) c.args.inquiry.now.event.now.did c.in_err-good-in-Verdict.ensures.failed)

pub judge-requires-clause-read : goal.judge-requires-clause-read
judge-requires-clause-read g c =
    let cursor = cursor_in c.args.inquiry.now.core.now c.args.inquiry.now.host.now in
    let a = account_in c.args.inquiry.now.core.now c.args.inquiry.now.event.now.did in
    let asks = asks_as cursor a (Frame.Event c.args.inquiry.now.event.now) c.args.answers.now c.args.question Question.Verdict c.requires.asks c.in-Verdict.is in
    let head = judges_opened cursor a c.args.inquiry.now.event.now c.args.answers.now asks in
    read_of c.args.inquiry.now.event.now.body c.args.answers.now.opened c.args.read.now head.0 head.1 c.requires.read

pub follow-requires-clause-commit : goal.follow-requires-clause-commit
follow-requires-clause-commit g c =
    let cursor = cursor_in c.args.inquiry.now.core.now c.args.inquiry.now.host.now in
    let a = account_in c.args.inquiry.now.core.now c.args.inquiry.now.event.now.did in
    let asks = asks_as cursor a (Frame.Event c.args.inquiry.now.event.now) c.args.answers.now c.args.question Question.Link c.requires.asks c.in-Link.is in
    links_commit cursor a c.args.inquiry.now.event.now c.args.answers.now asks

pub follow-requires-clause-read : goal.follow-requires-clause-read
follow-requires-clause-read g c =
    let cursor = cursor_in c.args.inquiry.now.core.now c.args.inquiry.now.host.now in
    let a = account_in c.args.inquiry.now.core.now c.args.inquiry.now.event.now.did in
    let asks = asks_as cursor a (Frame.Event c.args.inquiry.now.event.now) c.args.answers.now c.args.question Question.Link c.requires.asks c.in-Link.is in
    let head = links_opened cursor a c.args.inquiry.now.event.now c.args.answers.now asks in
    read_of c.args.inquiry.now.event.now.body c.args.answers.now.opened c.args.read.now head.0 head.1 c.requires.read

pub returns-in_ok-moment-in-Moment-clause-asked : goal.returns-in_ok-moment-in-Moment-clause-asked
returns-in_ok-moment-in-Moment-clause-asked g c =
    let cursor = cursor_in c.args.inquiry.now.core.now c.args.inquiry.now.host.now in
    let a = account_in c.args.inquiry.now.core.now c.args.inquiry.now.event.now.did in
    let asks = asks_as cursor a (Frame.Event c.args.inquiry.now.event.now) c.args.answers.now c.args.question Question.Moment c.requires.asks c.in-Moment.is in
    λ old moments so_far. moment_asked g.C.Clock.tells c.args.inquiry.now.core.now.last a c.args.inquiry.now.host.now c.args.inquiry.now.event.now c.args.answers.now old moments (g.P.Judges.panel c.args.judges.now) (g.C.Clock.moments c.args.clock.now) cursor so_far c.in_ok-moment-in-Moment.moment (g.C.Clock.moments c.ask_moment.new.clock) asks c.in_ok-moment-in-Moment.ensures.number c.in_ok-moment-in-Moment.ensures.now

pub returns-in_ok-moment-in-Moment-clause-fewer : goal.returns-in_ok-moment-in-Moment-clause-fewer
returns-in_ok-moment-in-Moment-clause-fewer g c =
    let cursor = cursor_in c.args.inquiry.now.core.now c.args.inquiry.now.host.now in
    let a = account_in c.args.inquiry.now.core.now c.args.inquiry.now.event.now.did in
    let asks = asks_as cursor a (Frame.Event c.args.inquiry.now.event.now) c.args.answers.now c.args.question Question.Moment c.requires.asks c.in-Moment.is in
    moment_falls cursor a (Frame.Event c.args.inquiry.now.event.now) c.args.answers.now c.in_ok-moment-in-Moment.moment asks

pub returns-in_ok-ask_refresh-in-Refresh-clause-asked : goal.returns-in_ok-ask_refresh-in-Refresh-clause-asked
returns-in_ok-ask_refresh-in-Refresh-clause-asked g c =
    let cursor = cursor_in c.args.inquiry.now.core.now c.args.inquiry.now.host.now in
    let a = account_in c.args.inquiry.now.core.now c.args.inquiry.now.event.now.did in
    let asks = asks_as cursor a (Frame.Event c.args.inquiry.now.event.now) c.args.answers.now c.args.question Question.Refresh c.requires.asks c.in-Refresh.is in
    λ old moments so_far. refresh_asked g.C.Clock.tells c.args.inquiry.now.core.now.last a c.args.inquiry.now.host.now c.args.inquiry.now.event.now c.args.answers.now old moments (g.P.Judges.panel c.args.judges.now) (g.C.Clock.moments c.args.clock.now) cursor so_far (g.P.Judges.panel c.ask_refresh.new.judges) asks (refresh_call c.as_str-did.result.now c.args.inquiry.now.event.now.did (g.P.Judges.panel c.args.judges.now) (g.P.Judges.panel c.ask_refresh.new.judges) (c.as_str-did.ensures.value ∙ ap (λ (e : Seen). e.did) c.event.view_is) c.in_ok-ask_refresh-in-Refresh.ensures.call)

pub returns-in_ok-ask_refresh-in-Refresh-clause-fewer : goal.returns-in_ok-ask_refresh-in-Refresh-clause-fewer
returns-in_ok-ask_refresh-in-Refresh-clause-fewer g c =
    let cursor = cursor_in c.args.inquiry.now.core.now c.args.inquiry.now.host.now in
    let a = account_in c.args.inquiry.now.core.now c.args.inquiry.now.event.now.did in
    let asks = asks_as cursor a (Frame.Event c.args.inquiry.now.event.now) c.args.answers.now c.args.question Question.Refresh c.requires.asks c.in-Refresh.is in
    refresh_falls cursor a (Frame.Event c.args.inquiry.now.event.now) c.args.answers.now asks

pub returns-in_ok-is_home-in-Home-clause-asked : goal.returns-in_ok-is_home-in-Home-clause-asked
returns-in_ok-is_home-in-Home-clause-asked g c =
    let cursor = cursor_in c.args.inquiry.now.core.now c.args.inquiry.now.host.now in
    let a = account_in c.args.inquiry.now.core.now c.args.inquiry.now.event.now.did in
    let asks = asks_as cursor a (Frame.Event c.args.inquiry.now.event.now) c.args.answers.now c.args.question Question.Home c.requires.asks c.in-Home.is in
    λ old moments so_far. home_asked g.C.Clock.tells c.args.inquiry.now.core.now.last a c.args.inquiry.now.host.now c.args.inquiry.now.event.now c.args.answers.now old moments (g.P.Judges.panel c.args.judges.now) (g.C.Clock.moments c.args.clock.now) cursor so_far (g.P.Judges.panel c.ask_home.new.judges) c.in_ok-is_home-in-Home.is_home asks (home_call c.as_str-did.result.now c.args.inquiry.now.event.now.did c.args.inquiry.now.host.now c.in_ok-is_home-in-Home.is_home (g.P.Judges.panel c.args.judges.now) (g.P.Judges.panel c.ask_home.new.judges) (c.as_str-did.ensures.value ∙ ap (λ (e : Seen). e.did) c.event.view_is) c.in_ok-is_home-in-Home.ensures.call)

pub returns-in_ok-is_home-in-Home-clause-fewer : goal.returns-in_ok-is_home-in-Home-clause-fewer
returns-in_ok-is_home-in-Home-clause-fewer g c =
    let cursor = cursor_in c.args.inquiry.now.core.now c.args.inquiry.now.host.now in
    let a = account_in c.args.inquiry.now.core.now c.args.inquiry.now.event.now.did in
    let asks = asks_as cursor a (Frame.Event c.args.inquiry.now.event.now) c.args.answers.now c.args.question Question.Home c.requires.asks c.in-Home.is in
    home_falls cursor a (Frame.Event c.args.inquiry.now.event.now) c.args.answers.now c.in_ok-is_home-in-Home.is_home asks

pub returns-in_ok-answer-in-Open-clause-asked : goal.returns-in_ok-answer-in-Open-clause-asked
returns-in_ok-answer-in-Open-clause-asked g c =
    let cursor = cursor_in c.args.inquiry.now.core.now c.args.inquiry.now.host.now in
    let a = account_in c.args.inquiry.now.core.now c.args.inquiry.now.event.now.did in
    let asks = asks_as cursor a (Frame.Event c.args.inquiry.now.event.now) c.args.answers.now c.args.question Question.Open c.requires.asks c.in-Open.is in
    λ old moments so_far. open_asked g.C.Clock.tells c.args.inquiry.now.core.now.last a c.args.inquiry.now.host.now c.args.inquiry.now.event.now c.args.answers.now old moments (g.P.Judges.panel c.args.judges.now) (g.C.Clock.moments c.args.clock.now) cursor so_far c.in_ok-answer-in-Open.answer asks (opened_beside c.args.inquiry.now.event.now.body c.last_rev.result c.args.inquiry.now.repo a c.in_ok-answer-in-Open.answer c.last_rev.ensures c.requires.repo (opened_seen c.event.inside.body c.args.inquiry.now.event.now.body c.last_rev.result c.in_ok-answer-in-Open.answer (ap (λ (e : Seen). e.body) c.event.view_is) c.in_ok-answer-in-Open.ensures.answer))

pub returns-in_ok-answer-in-Open-clause-fewer : goal.returns-in_ok-answer-in-Open-clause-fewer
returns-in_ok-answer-in-Open-clause-fewer g c =
    let cursor = cursor_in c.args.inquiry.now.core.now c.args.inquiry.now.host.now in
    let a = account_in c.args.inquiry.now.core.now c.args.inquiry.now.event.now.did in
    let asks = asks_as cursor a (Frame.Event c.args.inquiry.now.event.now) c.args.answers.now c.args.question Question.Open c.requires.asks c.in-Open.is in
    open_falls cursor a (Frame.Event c.args.inquiry.now.event.now) c.args.answers.now c.in_ok-answer-in-Open.answer asks

pub returns-in_ok-good-in-Verdict-clause-asked : goal.returns-in_ok-good-in-Verdict-clause-asked
returns-in_ok-good-in-Verdict-clause-asked g c =
    let cursor = cursor_in c.args.inquiry.now.core.now c.args.inquiry.now.host.now in
    let a = account_in c.args.inquiry.now.core.now c.args.inquiry.now.event.now.did in
    let asks = asks_as cursor a (Frame.Event c.args.inquiry.now.event.now) c.args.answers.now c.args.question Question.Verdict c.requires.asks c.in-Verdict.is in
    λ old moments so_far. verdict_asked g.C.Clock.tells c.args.inquiry.now.core.now.last a c.args.inquiry.now.host.now c.args.inquiry.now.event.now c.args.answers.now old moments (g.P.Judges.panel c.args.judges.now) (g.C.Clock.moments c.args.clock.now) cursor so_far (g.P.Judges.panel c.judge.new.judges) c.in_ok-good-in-Verdict.good asks c.in_ok-good-in-Verdict.ensures.calls

pub returns-in_ok-good-in-Verdict-clause-fewer : goal.returns-in_ok-good-in-Verdict-clause-fewer
returns-in_ok-good-in-Verdict-clause-fewer g c =
    let cursor = cursor_in c.args.inquiry.now.core.now c.args.inquiry.now.host.now in
    let a = account_in c.args.inquiry.now.core.now c.args.inquiry.now.event.now.did in
    let asks = asks_as cursor a (Frame.Event c.args.inquiry.now.event.now) c.args.answers.now c.args.question Question.Verdict c.requires.asks c.in-Verdict.is in
    verdict_falls cursor a (Frame.Event c.args.inquiry.now.event.now) c.args.answers.now c.in_ok-good-in-Verdict.good asks

pub returns-in_ok-follows-in-Link-clause-fewer : goal.returns-in_ok-follows-in-Link-clause-fewer
returns-in_ok-follows-in-Link-clause-fewer g c =
    let cursor = cursor_in c.args.inquiry.now.core.now c.args.inquiry.now.host.now in
    let a = account_in c.args.inquiry.now.core.now c.args.inquiry.now.event.now.did in
    let asks = asks_as cursor a (Frame.Event c.args.inquiry.now.event.now) c.args.answers.now c.args.question Question.Link c.requires.asks c.in-Link.is in
    link_falls cursor a (Frame.Event c.args.inquiry.now.event.now) c.args.answers.now c.in_ok-follows-in-Link.follows asks

pub returns-in_ok-follows-in-Link-clause-asked : goal.returns-in_ok-follows-in-Link-clause-asked
returns-in_ok-follows-in-Link-clause-asked g c =
    let cursor = cursor_in c.args.inquiry.now.core.now c.args.inquiry.now.host.now in
    let a = account_in c.args.inquiry.now.core.now c.args.inquiry.now.event.now.did in
    let asks = asks_as cursor a (Frame.Event c.args.inquiry.now.event.now) c.args.answers.now c.args.question Question.Link c.requires.asks c.in-Link.is in
    λ old moments so_far. link_asked g.C.Clock.tells c.args.inquiry.now.core.now.last a c.args.inquiry.now.host.now c.args.inquiry.now.event.now c.args.answers.now old moments (g.P.Judges.panel c.args.judges.now) (g.C.Clock.moments c.args.clock.now) cursor so_far c.in_ok-follows-in-Link.follows asks (linked_beside c.args.inquiry.now.repo a c.args.inquiry.now.event.now c.in_ok-follows-in-Link.follows c.requires.repo c.in_ok-follows-in-Link.ensures.answer)
