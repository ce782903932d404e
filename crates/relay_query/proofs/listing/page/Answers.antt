use Rattle.std.proofs.Common.{◌≡◌, ◌<◌, ◌≤◌, ◌++◌, ◌∷◌, [], length, Some, None, ap, ◌∙◌, rules, sym}
use Rattle.std.proofs.lemmas.Result.{IfOk-weaker}
use Rattle.serde_json.specs.View.{items_view}
use Rattle.serde_json.specs.Written.{has_float}
use Rattle.account_state.specs.State.{state_of}
use Rattle.account_state.proofs.Left.{fewer_left}
use Rattle.relay_query.proofs.Pages.{listing_done, listing_full, listing_more, listing_plain}
use Rattle.relay_query.proofs.NoFloats.{plain_page}
use Rattle.relay_query.proofs.listing.page.Goals as goal

pub returns-then-len-limit-clause-plain : goal.returns-then-len-limit-clause-plain
returns-then-len-limit-clause-plain c =
    IfOk-weaker c.page_of.result _ _ (λ value is. ap has_float is ∙ plain_page (Some c.repos.last.now) (items_view c.repos.repos.items) (listing_plain _ _ _ _ _ c.repos.invariant.0)) c.page_of.ensures

pub returns-then-len-limit-clause-page : goal.returns-then-len-limit-clause-page
returns-then-len-limit-clause-page c =
    let full : c.args.limit ≤ length c.repos.repos.items = search rules in
    IfOk-weaker c.page_of.result _ _
    (λ value is rows holds. is
    ∙ sym (listing_full c.args.core.now c.args.limit c.args.cursor.now c.repos.last.now c.repos.repos.items c.repos.invariant.0 c.in-Some.did.now (state_of c.in-Some.account.now)
    full c.requires c.in-Some.ensures.found c.in-Some.ensures.good c.in-Some.ensures.above c.in-Some.ensures.least rows holds))
    c.page_of.ensures

pub repos-smaller : goal.repos-smaller
repos-smaller c =
    fewer_left c.repos.last.now c.in-Some.did.now c.in-Some.ensures.above c.args.core.now.accounts (state_of c.in-Some.account.now) c.in-Some.ensures.found

pub repos-preserved : goal.repos-preserved
repos-preserved c =
    let room : length c.repos.repos.items < c.args.limit = search rules in
    let pushed : c.push.new.self.items ≡ c.repos.repos.items ++ c.in_ok-repo_value.field-0 ∷ [] = search rules in (
      rw pushed
          (listing_more c.args.core.now c.args.limit c.args.cursor.now c.repos.last.now c.repos.repos.items c.repos.invariant.0 c.in-Some.did.now (state_of c.in-Some.account.now) c.in_ok-repo_value.field-0
          room c.in-Some.ensures.found c.in-Some.ensures.good c.in-Some.ensures.above c.in-Some.ensures.least c.in_ok-repo_value.ensures),
      search rules,
    )

pub returns-clause-plain : goal.returns-clause-plain
returns-clause-plain c =
    IfOk-weaker c.page_of-2.result _ _ (λ value is. ap has_float is ∙ plain_page None (items_view c.repos.repos.items) (listing_plain _ _ _ _ _ c.repos.invariant.0)) c.page_of-2.ensures

pub returns-clause-page : goal.returns-clause-page
returns-clause-page c =
    IfOk-weaker c.page_of-2.result _ _
    (λ value is rows holds. is
    ∙ sym (listing_done c.args.core.now c.args.limit c.args.cursor.now c.repos.last.now c.repos.repos.items c.repos.invariant.0 (c.next_good.ensures.none c.in_default.is) rows holds))
    c.page_of-2.ensures
