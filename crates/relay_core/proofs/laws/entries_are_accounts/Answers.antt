use Rattle.relay_core.proofs.Known.{entry_is}
use Rattle.relay_core.proofs.laws.entries_are_accounts.Goals as goal

pub returns : goal.returns
returns c = entry_is
