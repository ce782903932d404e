use Rattle.std.proofs.Common.{ℕ, List, subst, ◌∙◌}
use Rattle.std.specs.FinMap.{entries}
use Rattle.std.specs.List.{All}
use Rattle.std.specs.Map.Iter.{deref_pair}
use Rattle.std.proofs.lemmas.List.Elements.{All-map}
use Rattle.std.proofs.lemmas.Map.Iter.{iter_end}
use Rattle.mst_view.proofs.AtHand.{IsMarked, all_marked}
use Rattle.mst_view.proofs.at_hand.AtHand.of.Goals as goal

pub invariant_of-result : goal.invariant_of-result
invariant_of-result c =
    let marks = c.loop-link.marks in let blocks = c.args.blocks.now in
    let whole = iter_end deref_pair (entries blocks) c.loop-link.yielded c.into_iter-link-iterator.result c.loop-link.link-iterator c.next.new.self c.next.result (c.into_iter-link-iterator.ensures.into_iter_gives ∙ c.iter-link-items.ensures.rest) c.loop-link.yielded_by c.in-None.is c.next.ensures.steps in
    let M : List (List ℕ × List ℕ) → Type 0 = λ es. All (IsMarked marks) es in
    all_marked marks blocks (subst M whole.0 (All-map (IsMarked marks) deref_pair c.loop-link.yielded c.loop-link.invariant.marked))
