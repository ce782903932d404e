use Rattle.std.proofs.Common.{◌≡◌, map, take}
use Rattle.commit_check.specs.Step.{edit_of}
use Rattle.commit_check.proofs.edits.edit_all.Given as goal

abbrev pub invariant-loop-op : goal.invariant-loop-op
invariant-loop-op l = l.made ≡ map edit_of (take l.op-index l.ops)
