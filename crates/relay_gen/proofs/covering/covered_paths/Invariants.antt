use Rattle.std.proofs.Common.{◌≡◌, ◌++◌, drop, map}
use Rattle.relay_gen.specs.Covers.{covered_keys}
use Rattle.relay_gen.specs.Records.{item_of, op_of}
use Rattle.relay_gen.proofs.covering.covered_paths.Given as goal

abbrev pub invariant-loop-change : goal.invariant-loop-change
invariant-loop-change l = l.paths.items ++ covered_keys (map item_of l.records) (map op_of (drop l.change-index l.changes)) ≡ covered_keys (map item_of l.records) (map op_of l.changes)
