use Rattle.std.proofs.Common.{take}
use Rattle.take_run.specs.Said.{AreLive}
use Rattle.take_run.proofs.live.live_front.Given as goal

abbrev pub invariant-loop-n : goal.invariant-loop-n
invariant-loop-n l = AreLive l.tally.ended.items (take l.n l.group)
