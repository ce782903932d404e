use Rattle.std.proofs.Common.{◌≡◌, ◌+◌, ◌*◌, ◌++◌, drop}
use Rattle.mst_view.specs.Layered.{AllAt, rest_items}
use Rattle.mst_view.proofs.copying.+copy.Given as goal

abbrev pub decreases-copy_below : goal.decreases-copy_below
decreases-copy_below l = 3 * l.layer

abbrev pub decreases-copy_rest : goal.decreases-copy_rest
decreases-copy_rest l = 3 * l.layer + 1

abbrev pub decreases-copy_branch : goal.decreases-copy_branch
decreases-copy_branch l = 3 * l.branch.now.layer + 2

abbrev pub invariant-copy_rest-loop-part : goal.invariant-copy_rest-loop-part
invariant-copy_rest-loop-part l = record {
  at : AllAt l.layer l.rest.items;
  items : rest_items l.layer l.rest.items ++ rest_items l.layer (drop l.part-index l.parts) ≡ rest_items l.layer l.parts;
}
