use Rattle.std.proofs.Common.{subst}
use Rattle.at_car.specs.Blocks.{BlockMap, AreLinked}
use Rattle.mst_view.proofs.at_hand.AtHand.get.Goals as goal

pub returns-then-self-place_of-clause-linked : goal.returns-then-self-place_of-clause-linked
returns-then-self-place_of-clause-linked c = let L : BlockMap → Type 0 = λ B. AreLinked B in subst L c.self.view_is c.ghost_linked.ensures

pub returns-else-self-place_of-clause-linked : goal.returns-else-self-place_of-clause-linked
returns-else-self-place_of-clause-linked c = let L : BlockMap → Type 0 = λ B. AreLinked B in subst L c.self.view_is c.ghost_linked.ensures
