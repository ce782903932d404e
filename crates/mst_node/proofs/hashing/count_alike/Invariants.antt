use Rattle.std.proofs.Common.{◌≡◌, take}
use Rattle.mst_node.specs.Fronts.{HaveBlock}
use Rattle.mst_node.proofs.hashing.count_alike.Given as goal

abbrev pub invariant-entries : goal.invariant-entries
invariant-entries g l = (l.alike ≡ l.entry-index) × HaveBlock g.E.Keyed.entry l.count l.block (take l.entry-index l.entries)
