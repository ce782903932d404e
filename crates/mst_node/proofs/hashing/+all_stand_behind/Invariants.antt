use Rattle.std.proofs.Common.{◌≡◌, ◌-◌, ◌^◌, length}
use Rattle.std.specs.List.{list_all}
use Rattle.std.specs.Prelude.{map}
use Rattle.mst_node.specs.Fits.{stands}
use Rattle.mst_node.specs.Fronts.{HoldsFronts}
use Rattle.mst_node.proofs.hashing.+all_stand_behind.Given as goal

abbrev pub decreases-all_stand_behind : goal.decreases-all_stand_behind
decreases-all_stand_behind g l = 2 ^ 64 - l.count

abbrev pub invariant-runs : goal.invariant-runs
invariant-runs g l = (list_all (stands l.layer) (map g.E.Keyed.entry l.rest) ≡ list_all (stands l.layer) (map g.E.Keyed.entry l.entries)) × HoldsFronts g.E.Keyed.entry l.hasher l.count l.rest

abbrev pub decreases-runs : goal.decreases-runs
decreases-runs g l = length l.rest
