use Rattle.std.proofs.Common.{rules, ◌≡◌, ℕ, List, Some, Err, inr, sym, ap, ◌∙◌}
use Rattle.at_cbor.proofs.Texts.{typed_string}
use Rattle.relay_row.specs.declared.row.Row.{Row}
use Rattle.relay_step.specs.Fetches.{found_as}
use Rattle.relay_step.specs.Around.{around}
use Rattle.relay_step.specs.Fetching.{told_where}
use Rattle.relay_step.proofs.Vain.{cause_ends, cause_map, no_cause, on_err, plain_fetch, same_cause, vain_plain}
use Rattle.relay_step.proofs.Sending.{text_tested}
use Rattle.relay_step.proofs.Commands.{fetch_ends, fetch_spent, fetched_beside, synced_kept, synced_made, synced_unfit}
use Rattle.relay_step.proofs.syncing.sync_now.Goals as goal

pub returns-in_err-fetched-clause-in_vain : goal.returns-in_err-fetched-clause-in_vain
returns-in_err-fetched-clause-in_vain g c =
    on_err c.from_residual-in_err-fetched.result _ (record {
      judges = vain_plain (g.P.Judges.panel c.args.asked.now.judges.now) (g.P.Judges.panel c.fetch.new.judges) c.args.did.now (plain_fetch (told_where g.R.Repos.tells (g.R.Repos.repository c.args.asked.now.repos.now c.args.did.now)) c.args.did.now c.last_rev-least.result c.in_ok-moment.moment (g.P.Judges.panel c.args.asked.now.judges.now) (found_as c.in_ok-found.found) (g.P.Judges.panel c.fetch.new.judges) c.in_ok-found.ensures.fetched);
      moments = λ told. inr (c.in_ok-moment.ensures.now told).gone;
      same = c.in_ok-found.ensures.same;
    })

pub returns-in_err-did-clause-in_vain : goal.returns-in_err-did-clause-in_vain
returns-in_err-did-clause-in_vain g c =
    on_err c.from_residual-in_err-did.result _ (record {
      judges = vain_plain (g.P.Judges.panel c.args.asked.now.judges.now) (g.P.Judges.panel c.fetch.new.judges) c.args.did.now (plain_fetch (told_where g.R.Repos.tells (g.R.Repos.repository c.args.asked.now.repos.now c.args.did.now)) c.args.did.now c.last_rev-least.result c.in_ok-moment.moment (g.P.Judges.panel c.args.asked.now.judges.now) (found_as c.in_ok-found.found) (g.P.Judges.panel c.fetch.new.judges) c.in_ok-found.ensures.fetched);
      moments = λ told. inr (c.in_ok-moment.ensures.now told).gone;
      same = c.in_ok-found.ensures.same;
    })

pub returns-in-Some-fetch_refusal-clause-synced : goal.returns-in-Some-fetch_refusal-clause-synced
returns-in-Some-fetch_refusal-clause-synced g c =
    let old = g.P.Judges.panel c.args.asked.now.judges.now in
    let new = g.P.Judges.panel c.fetch.new.judges in
    let repository = told_where g.R.Repos.tells (g.R.Repos.repository c.args.asked.now.repos.now c.args.did.now) in
    let found = found_as c.in_ok-found.found in
    let fetched = fetched_beside c.args.core.now c.args.did.now repository c.in_ok-moment.moment old found new c.last_rev-least.result c.repo_of.result c.last_rev-least.ensures c.repo_of.ensures c.in_ok-found.ensures.fetched in
    record {
      moment = c.in_ok-moment.moment;
      now = c.in_ok-moment.ensures.now;
      synced = λ J holds. synced_unfit c.args.core.now c.args.did.now c.args.time.now c.in_ok-moment.moment repository old new found c.in_ok-fetched.fetched c.in-Some-fetch_refusal.refusal J (sym c.in_default.ensures) holds fetched
          c.in_ok-fetched.ensures.made (sym c.in-Some-fetch_refusal.ensures);
      same = c.in_ok-found.ensures.same;
    }

pub returns-clause-synced : goal.returns-clause-synced
returns-clause-synced g c =
    let old = g.P.Judges.panel c.args.asked.now.judges.now in
    let new = g.P.Judges.panel c.fetch.new.judges in
    let repository = told_where g.R.Repos.tells (g.R.Repos.repository c.args.asked.now.repos.now c.args.did.now) in
    let found = found_as c.in_ok-found.found in
    let fetched = fetched_beside c.args.core.now c.args.did.now repository c.in_ok-moment.moment old found new c.last_rev-least.result c.repo_of.result c.last_rev-least.ensures c.repo_of.ensures c.in_ok-found.ensures.fetched in
    record {
      moment = c.in_ok-moment.moment;
      now = c.in_ok-moment.ensures.now;
      synced = λ J holds. synced_made c.args.core.now c.args.did.now c.args.time.now c.in_ok-moment.moment repository old new found c.in-Whole.whole (Row.Synced c.in_ok-did.did c.in-Whole.whole (Some c.in_ok-moment.moment)) J (sym c.in_default.ensures) holds fetched
          (sym c.in-Whole.is ∙ c.in_ok-fetched.ensures.made) (ap (λ (d : List ℕ). Row.Synced d c.in-Whole.whole (Some c.in_ok-moment.moment)) c.in_ok-did.ensures);
      same = c.in_ok-found.ensures.same;
    }

pub returns-clause-formed : goal.returns-clause-formed
returns-clause-formed g c =
    synced_kept c.args.core.now c.args.did.now c.args.time.now c.in_ok-moment.moment (found_as c.in_ok-found.found) c.in-Whole.whole (Row.Synced c.in_ok-did.did c.in-Whole.whole (Some c.in_ok-moment.moment)) c.synced_rows_are_formed.ensures
    (sym c.in-Whole.is ∙ c.in_ok-fetched.ensures.made) (ap (λ (d : List ℕ). Row.Synced d c.in-Whole.whole (Some c.in_ok-moment.moment)) c.in_ok-did.ensures) c.in_ok-found.ensures.may c.in_ok-fetched.ensures.sent
    (text_tested c.args.did.now (typed_string c.args.did.now c.ghost_text.ensures.bytes c.ghost_text.ensures.length) c.ghost_text.ensures.utf8) c.requires.did c.in_ok-moment.ensures.number

pub returns-in_err-found-clause-caused : goal.returns-in_err-found-clause-caused
returns-in_err-found-clause-caused g c =
    let is : c.from_residual-in_err-found.result ≡ Err c.in_err-found.field-0.0 = search rules in
    rw is (cause_map _ _ _ _ _ _ _ _ (no_cause _) (fetch_spent g.C.Clock.tells g.R.Repos.tells c.args.core.now c.args.did.now (around (g.P.Judges.panel c.args.asked.now.judges.now) (g.C.Clock.moments c.args.asked.now.clock.now) (g.R.Repos.repository c.args.asked.now.repos.now))
    (around (g.P.Judges.panel c.fetch.new.judges) (g.C.Clock.moments c.ask_moment.new.clock) (g.R.Repos.repository c.fetch.new.repos)) (sym c.in_default.ensures) c.in_ok-moment.moment c.in_ok-moment.ensures.now c.last_rev-least.result c.repo_of.result c.last_rev-least.ensures c.repo_of.ensures) (same_cause _) (no_cause _) c.in_err-found.field-0.0 c.in_err-found.ensures.caused)

pub returns-in_err-fetched-clause-caused : goal.returns-in_err-fetched-clause-caused
returns-in_err-fetched-clause-caused g c =
    let is : c.from_residual-in_err-fetched.result ≡ Err c.in_err-fetched.field-0.0 = search rules in
    rw is (cause_ends _ _ _ _ _ (fetch_ends g.C.Clock.tells g.R.Repos.tells c.args.core.now c.args.did.now (around (g.P.Judges.panel c.args.asked.now.judges.now) (g.C.Clock.moments c.args.asked.now.clock.now) (g.R.Repos.repository c.args.asked.now.repos.now))
    (around (g.P.Judges.panel c.fetch.new.judges) (g.C.Clock.moments c.ask_moment.new.clock) (g.R.Repos.repository c.fetch.new.repos)) (sym c.in_default.ensures) c.in_ok-moment.moment c.in_ok-moment.ensures.now c.last_rev-least.result c.repo_of.result c.last_rev-least.ensures c.repo_of.ensures (found_as c.in_ok-found.found) c.in_ok-found.ensures.fetched) c.in_err-fetched.field-0.0 c.in_err-fetched.ensures.caused)
