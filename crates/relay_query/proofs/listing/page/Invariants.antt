use denote.Shadow.{shadow}
use denote.Text.{Utf8}
use Rattle.account_state.proofs.Left.{behind_count}
use Rattle.relay_query.proofs.Pages.{IsListing}
use Rattle.relay_query.proofs.listing.page.Given as goal

abbrev pub invariant-repos : goal.invariant-repos
invariant-repos l = IsListing l.core l.limit l.cursor l.last l.repos.items × shadow (Utf8 l.last)

abbrev pub decreases-repos : goal.decreases-repos
decreases-repos l = behind_count l.last l.core.accounts
