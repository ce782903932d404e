use Rattle.std.proofs.Common.{◌≡◌, ◌++◌, drop}
use Rattle.mst_view.specs.Layered.{entries_of}
use Rattle.relay_gen.proofs.settling.entries_of.Given as goal

abbrev pub invariant-loop-part : goal.invariant-loop-part
invariant-loop-part l = l.entries.items ++ entries_of (drop l.part-index l.parts) ≡ entries_of l.parts
