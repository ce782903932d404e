use Rattle.std.proofs.Common.{◌≡◌, ◌∙◌, ◌+◌, ℕ, List, None, length, ap, sym}
use Rattle.mst_list.specs.declared.item.Item.{Item}
use Rattle.mst_list.specs.Edits.{value_at}
use Rattle.whole_map.specs.Pieces.{flatten}
use Rattle.whole_map.proofs.Sizes.{length_created}
use Rattle.whole_map.proofs.whole_map.WholeMap.insert.Goals as goal

pub invariant_of-self-2 : goal.invariant_of-self-2
invariant_of-self-2 c =
    let k = c.args.key in let s = flatten c.self.inside.pieces.items in
    let absent : value_at k s ≡ None = ap (λ (x : List Item). value_at k x) c.self.view_is ∙ c.requires in
    record {
      are = c.insert.ensures.pieces;
      counted = c.in-Some.ensures.1 ∙ ap (λ (n : ℕ). n + 1) c.self.invariant.counted ∙ sym (length_created k c.args.link s absent) ∙ ap length (sym c.in_ok-insert.ensures.put);
    }
