use Rattle.std.proofs.Common.{◌∙◌, ◌<◌, ℕ, List, Some, length, set, ap, sym, subst}
use Rattle.mst_list.specs.declared.item.Item.{Item}
use Rattle.mst_list.specs.Edits.{put}
use Rattle.whole_map.specs.Pieces.{IsPlace}
use Rattle.whole_map.proofs.Edits.{IsEdited, put_at}
use Rattle.whole_map.proofs.Sizes.{length_put}
use Rattle.whole_map.proofs.pieces.insert.Goals as goal

edited : (c : goal.In_ok-insert) → IsEdited c.args.key (Some c.args.link) c.make_way.new.pieces.items (set c.make_way.new.pieces.items c.in_ok-at.at c.insert.new.self)
edited c =
    let k = c.args.key in let ps = c.make_way.new.pieces.items in let at = c.in_ok-at.at in let p = c.index_mut.result.now in
    let place = subst (λ (x : List ℕ). IsPlace x ps at) c.as_slice.ensures.value c.in_ok-at.ensures.place in
    put_at k (Some c.args.link) ps at p c.insert.new.self c.make_way.ensures.pieces place c.index_mut.ensures.value c.in_ok-insert.ensures.put
    (subst (λ (x : List Item). 0 < length x) (sym c.in_ok-insert.ensures.put) (length_put k c.args.link p))

pub returns-clause-put : goal.returns-clause-put
returns-clause-put c = (edited c).whole ∙ ap (λ (x : List Item). put c.args.key (Some c.args.link) x) c.make_way.ensures.map

pub returns-clause-pieces : goal.returns-clause-pieces
returns-clause-pieces c = (edited c).are
