use Rattle.account_state.proofs.Joined.{joined}
use Rattle.account_state.proofs.laws.accounts_join.Goals as goal

pub returns : goal.returns
returns c = joined
