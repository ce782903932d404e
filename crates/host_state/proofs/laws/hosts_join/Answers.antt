use Rattle.host_state.proofs.Cursors.{hosts_joined}
use Rattle.host_state.proofs.laws.hosts_join.Goals as goal

pub returns : goal.returns
returns c = hosts_joined
