use Rattle.std.proofs.Common.{subst}
use Rattle.at_car.specs.Blocks.{AreLinked}
use Rattle.at_car.proofs.Places.{linked}
use Rattle.at_car.proofs.blocks.Blocks.ghost_linked.Goals as goal

pub returns : goal.returns
returns c = subst AreLinked c.self.view_is (linked c.self.inside.buffer c.self.inside.entries.items c.self.invariant.0)
