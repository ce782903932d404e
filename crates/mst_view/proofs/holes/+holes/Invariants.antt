use Rattle.std.proofs.Common.{◌≡◌, ◌+◌, ◌*◌, ◌++◌, drop}
use Rattle.mst_view.specs.Layered.{rest_items}
use Rattle.mst_view.proofs.holes.+holes.Given as goal
use Rattle.mst_view.specs.HoleLinks.{hole_links}

abbrev pub decreases-links_below : goal.decreases-links_below
decreases-links_below l = 2 * l.layer

abbrev pub decreases-links_of : goal.decreases-links_of
decreases-links_of l = 2 * l.branch.now.layer + 1

abbrev pub invariant-links_of-loop-part : goal.invariant-links_of-loop-part
invariant-links_of-loop-part l = l.links.items ++ hole_links (rest_items l.branch.layer (drop l.part-index l.part-items)) ≡ l.fn.links.items ++ hole_links l.branch.items
