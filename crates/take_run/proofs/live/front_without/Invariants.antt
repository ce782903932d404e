use Rattle.std.proofs.Common.{take}
use Rattle.take_run.specs.Said.{AreLive}
use Rattle.take_run.proofs.live.front_without.Given as goal

abbrev pub invariant-loop-n : goal.invariant-loop-n
invariant-loop-n l = AreLive l.hosts (take l.n l.group)
