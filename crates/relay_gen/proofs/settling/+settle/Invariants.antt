use Rattle.std.proofs.Common.{◌≡◌, ◌+◌, ◌*◌, ◌++◌, length}
use Rattle.mst_view.specs.Layered.{AllAt, rest_items}
use Rattle.relay_gen.proofs.settling.+settle.Given as goal

abbrev pub decreases-settle_below : goal.decreases-settle_below
decreases-settle_below l = 3 * l.layer

abbrev pub decreases-settle_rest : goal.decreases-settle_rest
decreases-settle_rest l = 3 * l.layer + 1

abbrev pub decreases-settle_branch : goal.decreases-settle_branch
decreases-settle_branch l = 3 * l.branch.layer + 2

abbrev pub decreases-settle_rest-parts : goal.decreases-settle_rest-parts
decreases-settle_rest-parts l = length l.left.items

abbrev pub invariant-settle_rest-parts : goal.invariant-settle_rest-parts
invariant-settle_rest-parts l = record {
  done : AllAt l.layer l.settled.items;
  left : AllAt l.layer l.left.items;
  items : rest_items l.layer l.settled.items ++ rest_items l.layer l.left.items ≡ rest_items l.layer l.fn.rest.items;
}
