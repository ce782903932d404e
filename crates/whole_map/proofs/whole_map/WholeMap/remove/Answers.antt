use Rattle.std.proofs.Common.{◌≡◌, ◌∙◌, List, is_some, true, length, ap, arith}
use Rattle.mst_list.specs.declared.item.Item.{Item}
use Rattle.mst_list.specs.Edits.{value_at}
use Rattle.whole_map.specs.Pieces.{flatten}
use Rattle.whole_map.proofs.Sizes.{length_removed}
use Rattle.whole_map.proofs.whole_map.WholeMap.remove.Goals as goal

pub invariant_of-self : goal.invariant_of-self
invariant_of-self c =
    let k = c.args.key.now in let s = flatten c.self.inside.pieces.items in
    let held : is_some (value_at k s) ≡ true = ap (λ (x : List Item). is_some (value_at k x)) c.self.view_is ∙ c.requires in
    record {
      are = c.remove.ensures.pieces;
      counted = omega (arith, c.self.invariant.counted, length_removed k s held, ap length c.remove.ensures.put);
    }
