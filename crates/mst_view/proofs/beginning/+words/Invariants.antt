use Rattle.std.proofs.Common.{◌≡◌, ◌+◌, ◌*◌, ◌++◌, drop, map}
use Rattle.at_car.specs.Links.{first_word}
use Rattle.mst_view.specs.Layered.{rest_items}
use Rattle.mst_view.specs.HoleLinks.{hole_links}
use Rattle.mst_view.proofs.beginning.+words.Given as goal

abbrev pub decreases-words_below : goal.decreases-words_below
decreases-words_below l = 2 * l.layer

abbrev pub decreases-words_of : goal.decreases-words_of
decreases-words_of l = 2 * l.branch.now.layer + 1

abbrev pub invariant-words_of-loop-part : goal.invariant-words_of-loop-part
invariant-words_of-loop-part l = l.words.items ++ map first_word (hole_links (rest_items l.branch.layer (drop l.part-index l.part-items))) ≡ l.fn.words.items ++ map first_word (hole_links l.branch.items)
