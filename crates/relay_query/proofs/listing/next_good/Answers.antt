use Rattle.std.proofs.Common.{rules}
use Rattle.account_state.specs.State.{state_of}
use Rattle.account_state.proofs.Left.{fewer_left}
use Rattle.relay_query.proofs.Seeking.{seeking_more}
use Rattle.relay_query.proofs.listing.next_good.Goals as goal

pub accounts-smaller : goal.accounts-smaller
accounts-smaller c =
    fewer_left c.accounts.place.now c.in-Some.did.now c.in-Some.ensures.above c.args.core.now.accounts (state_of c.in-Some.account.now) c.in-Some.ensures.found

pub accounts-preserved : goal.accounts-preserved
accounts-preserved c = (
  seeking_more c.args.core.now c.args.behind.now c.accounts.place.now c.accounts.invariant.0 c.in-Some.did.now (state_of c.in-Some.account.now) c.in-Some.ensures.found (search rules) c.in-Some.ensures.above c.in-Some.ensures.least,
  search rules,
)
