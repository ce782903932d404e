use Rattle.std.proofs.Common.{◌≡◌, ◌+◌, ◌*◌, ◌++◌, drop}
use Rattle.mst_view.specs.Layered.{rest_items}
use Rattle.mst_view.proofs.listing.+list.Given as goal

abbrev pub decreases-list_below : goal.decreases-list_below
decreases-list_below l = 2 * l.layer

abbrev pub decreases-list_branch : goal.decreases-list_branch
decreases-list_branch l = 2 * l.branch.now.layer + 1

abbrev pub invariant-list_branch-loop-part : goal.invariant-list_branch-loop-part
invariant-list_branch-loop-part l = l.list ++ rest_items l.branch.layer (drop l.part-index l.part-items) ≡ l.fn.list ++ l.branch.items
