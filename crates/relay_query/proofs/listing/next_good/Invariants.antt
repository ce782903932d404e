use denote.Shadow.{shadow}
use denote.Text.{Utf8}
use Rattle.account_state.proofs.Left.{behind_count}
use Rattle.relay_query.proofs.Seeking.{IsSeeking}
use Rattle.relay_query.proofs.listing.next_good.Given as goal

abbrev pub invariant-accounts : goal.invariant-accounts
invariant-accounts l = IsSeeking l.core l.behind l.place × shadow (Utf8 l.place)

abbrev pub decreases-accounts : goal.decreases-accounts
decreases-accounts l = behind_count l.place l.core.accounts
