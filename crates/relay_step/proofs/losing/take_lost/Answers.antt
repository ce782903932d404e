use Rattle.std.proofs.Common.{rules, ◌≡◌, Err, ap, sym, ◌∙◌}
use Rattle.at_event.specs.Seen.{Seen}
use Rattle.relay_core.specs.Entries.{account_in, cursor_in}
use Rattle.relay_step.specs.Fetches.{found_as}
use Rattle.relay_step.specs.Fetching.{told_where}
use Rattle.relay_step.proofs.Vain.{cause_ends, if_err, on_err, plain_as, plain_fetch}
use Rattle.relay_step.proofs.Losses.{asks_fetch, ends_lost, lost_by, lost_stays}
use Rattle.relay_step.proofs.losing.take_lost.Goals as goal

pub returns-in_err-fetched-clause-in_vain : goal.returns-in_err-fetched-clause-in_vain
returns-in_err-fetched-clause-in_vain g c =
    let did = c.as_str-did.ensures.value ∙ ap (λ (e : Seen). e.did) c.event.view_is in
    on_err c.from_residual-in_err-fetched.result _ (plain_as (g.P.Judges.panel c.args.judges.now) (g.P.Judges.panel c.fetch.new.judges) c.args.event.did c.as_str-did.result.now did
    (plain_fetch (told_where g.R.Repos.tells (g.R.Repos.repository c.args.repos.now c.as_str-did.result.now)) c.as_str-did.result.now c.last_rev.result c.in-Some.moment (g.P.Judges.panel c.args.judges.now) (found_as c.in_ok-found.found) (g.P.Judges.panel c.fetch.new.judges) c.in_ok-found.ensures.fetched))

pub unreachable-requires-in_default-next_for_event : goal.unreachable-requires-in_default-next_for_event
unreachable-requires-in_default-next_for_event g c =
    let there = asks_fetch (cursor_in c.args.core.now c.args.host.now) (account_in c.args.core.now c.args.event.did) c.args.event c.args.answers c.requires.asks in
    let other = there.decides c.in_ok-fetched.fetched in
    c.in_default-next_for_event.not-Done other.0 (c.next_for_event.ensures ∙ other.1)

pub returns-clause-recorded : goal.returns-clause-recorded
returns-clause-recorded g c =
    let did = c.as_str-did.ensures.value ∙ ap (λ (e : Seen). e.did) c.event.view_is in
    let time = c.as_str.ensures.value ∙ ap (λ (e : Seen). e.time) c.event.view_is in
    let done = sym c.in-Done.ensures in
    lost_by g.R.Repos.tells c.args.core.now c.args.event c.args.answers (found_as c.in_ok-found.found) (g.P.Judges.panel c.args.judges.now) (g.R.Repos.repository c.args.repos.now) (g.P.Judges.panel c.fetch.new.judges) c.as_str-did.result.now c.last_rev.result c.repo_of.result c.in-Some.moment did c.in-Some.is c.last_rev.ensures c.repo_of.ensures c.in_ok-found.ensures.fetched
    c.args.host.now c.in_ok-fetched.fetched c.in-Done.decision c.as_str.result.now c.requires.asks time c.in_ok-fetched.ensures.made c.requires.did c.requires.time c.in_ok-found.ensures.may c.in_ok-fetched.ensures.sent done c.take.result c.take.ensures.recorded c.take.ensures.number

pub returns-in_err-fetched-clause-caused : goal.returns-in_err-fetched-clause-caused
returns-in_err-fetched-clause-caused g c =
    let did = c.as_str-did.ensures.value ∙ ap (λ (e : Seen). e.did) c.event.view_is in
    let is : c.from_residual-in_err-fetched.result ≡ Err c.in_err-fetched.field-0.0 = search rules in
    rw is (cause_ends _ _ _ _ _ (ends_lost g.R.Repos.tells c.args.core.now c.args.event c.args.answers (found_as c.in_ok-found.found) (g.P.Judges.panel c.args.judges.now) (g.R.Repos.repository c.args.repos.now) (g.P.Judges.panel c.fetch.new.judges) c.as_str-did.result.now c.last_rev.result c.repo_of.result c.in-Some.moment did c.in-Some.is c.last_rev.ensures c.repo_of.ensures c.in_ok-found.ensures.fetched) c.in_err-fetched.field-0.0 c.in_err-fetched.ensures.caused)

pub returns-clause-caused : goal.returns-clause-caused
returns-clause-caused g c =
    if_err c.take.result _ _ (λ fault. cause_ends _ _ _ _ _ (λ both. absurd (lost_stays (cursor_in c.args.core.now c.args.host.now) (account_in c.args.core.now c.args.event.did) c.args.event c.args.answers c.in_ok-fetched.fetched c.in-Done.decision c.requires.asks (sym c.in-Done.ensures) both.1)) fault) c.take.ensures.caused

pub returns-clause-in_vain : goal.returns-clause-in_vain
returns-clause-in_vain g c =
    let did = c.as_str-did.ensures.value ∙ ap (λ (e : Seen). e.did) c.event.view_is in
    on_err c.take.result _ (plain_as (g.P.Judges.panel c.args.judges.now) (g.P.Judges.panel c.fetch.new.judges) c.args.event.did c.as_str-did.result.now did
    (plain_fetch (told_where g.R.Repos.tells (g.R.Repos.repository c.args.repos.now c.as_str-did.result.now)) c.as_str-did.result.now c.last_rev.result c.in-Some.moment (g.P.Judges.panel c.args.judges.now) (found_as c.in_ok-found.found) (g.P.Judges.panel c.fetch.new.judges) c.in_ok-found.ensures.fetched))
