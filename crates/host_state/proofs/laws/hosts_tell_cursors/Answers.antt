use Rattle.host_state.proofs.Cursors.{hosts_tell}
use Rattle.host_state.proofs.laws.hosts_tell_cursors.Goals as goal

pub returns : goal.returns
returns c = hosts_tell
