use Rattle.std.proofs.Common.{◌<◌, List, Some, length, sym, subst}
use Rattle.mst_list.specs.declared.item.Item.{Item}
use Rattle.whole_map.specs.Pieces.{IsPlace}
use Rattle.whole_map.proofs.Edits.{put_at}
use Rattle.whole_map.proofs.Sizes.{length_put}
use Rattle.whole_map.proofs.pieces.set.Goals as goal

pub returns-clause-put : goal.returns-clause-put
returns-clause-put c =
    let k = c.args.key.now in let ps = c.args.pieces.now.items in let at = c.place_of-at.result in let p = c.index_mut.result.now in
    let place = subst (λ (x : List (List Item)). IsPlace k x at) c.as_slice.ensures.value c.place_of-at.ensures in
    (put_at k (Some c.args.link) ps at p c.set.new.self c.requires.pieces place c.index_mut.ensures.value c.set.ensures
    (subst (λ (x : List Item). 0 < length x) (sym c.set.ensures) (length_put k c.args.link p))).whole

pub returns-clause-pieces : goal.returns-clause-pieces
returns-clause-pieces c =
    let k = c.args.key.now in let ps = c.args.pieces.now.items in let at = c.place_of-at.result in let p = c.index_mut.result.now in
    let place = subst (λ (x : List (List Item)). IsPlace k x at) c.as_slice.ensures.value c.place_of-at.ensures in
    (put_at k (Some c.args.link) ps at p c.set.new.self c.requires.pieces place c.index_mut.ensures.value c.set.ensures
    (subst (λ (x : List Item). 0 < length x) (sym c.set.ensures) (length_put k c.args.link p))).are
