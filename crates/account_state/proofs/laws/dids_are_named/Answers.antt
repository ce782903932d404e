use Rattle.account_state.proofs.Dids.{dids_behind, dids_named}
use Rattle.account_state.proofs.laws.dids_are_named.Goals as goal

pub returns : goal.returns
returns c = record { ascend = dids_behind; named = dids_named }
