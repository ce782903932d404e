use Rattle.std.proofs.Common.{◌∙◌, ◌++◌, List, sym, ap, add-one, arith}
use Rattle.mst_list.specs.declared.item.Item.{Item}
use Rattle.whole_map.proofs.Edits.{flatten_more}
use Rattle.mirror.proofs.placed.placed_of.Goals as goal

pub loop-piece-preserved : goal.loop-piece-preserved
loop-piece-preserved c =
    let p = c.piece-item.result in let placed = c.loop-piece.placed.items in
    c.in_ok-add_all.ensures ∙ ap (λ (x : List Item). placed ++ x) c.as_slice.ensures ∙ ap (λ (x : List Item). x ++ p) c.loop-piece.invariant
    ∙ rw add-one (sym (flatten_more c.pieces-piece-items.result.now c.loop-piece.piece-index p (omega arith) c.piece-item.is))
