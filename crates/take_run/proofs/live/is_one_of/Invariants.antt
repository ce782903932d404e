use Rattle.std.proofs.Common.{◌≡◌, drop}
use Rattle.relay_core.specs.Runs.{has_ended}
use Rattle.take_run.proofs.live.is_one_of.Given as goal

abbrev pub invariant-loop-name : goal.invariant-loop-name
invariant-loop-name l = has_ended (drop l.name-index l.hosts) l.host ≡ has_ended l.hosts l.host
