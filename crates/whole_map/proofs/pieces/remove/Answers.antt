use Rattle.std.proofs.Common.{◌≡◌, ◌∙◌, List, None, length, set, sym, ap, subst, arith}
use Rattle.std.proofs.lemmas.List.{get_or_default}
use Rattle.mst_list.specs.declared.item.Item.{Item}
use Rattle.whole_map.specs.Pieces.{IsPlace, flatten}
use Rattle.whole_map.proofs.Edits.{IsEdited, gone_at, held_at, put_at}
use Rattle.whole_map.proofs.Sizes.{length_removed}
use Rattle.whole_map.proofs.pieces.remove.Goals as goal

pub returns-then-len-eq1-clause-put : goal.returns-then-len-eq1-clause-put
returns-then-len-eq1-clause-put c =
    let k = c.args.key.now in let ps = c.args.pieces.now.items in let at = c.place_of-at.result in
    let place = subst (λ (x : List (List Item)). IsPlace k x at) c.as_slice.ensures.value c.place_of-at.ensures in
    (subst (λ (x : List (List Item)). IsEdited k None ps x) (sym c.remove.ensures.items)
    (gone_at k ps at c.index.result.now c.requires.pieces place c.index.ensures (sym c.len.ensures ∙ c.if-len-eq1.true) c.requires.held)).whole

pub returns-then-len-eq1-clause-pieces : goal.returns-then-len-eq1-clause-pieces
returns-then-len-eq1-clause-pieces c =
    let k = c.args.key.now in let ps = c.args.pieces.now.items in let at = c.place_of-at.result in
    let place = subst (λ (x : List (List Item)). IsPlace k x at) c.as_slice.ensures.value c.place_of-at.ensures in
    (subst (λ (x : List (List Item)). IsEdited k None ps x) (sym c.remove.ensures.items)
    (gone_at k ps at c.index.result.now c.requires.pieces place c.index.ensures (sym c.len.ensures ∙ c.if-len-eq1.true) c.requires.held)).are

pub returns-else-len-eq1-clause-put : goal.returns-else-len-eq1-clause-put
returns-else-len-eq1-clause-put c =
    let k = c.args.key.now in let ps = c.args.pieces.now.items in let at = c.place_of-at.result in
    let place = subst (λ (x : List (List Item)). IsPlace k x at) c.as_slice.ensures.value c.place_of-at.ensures in
    ap (λ (x : List Item). flatten (set ps at x)) c.remove-else-len-eq1.ensures ∙ sym (place.edit c.index_mut.result.now c.index_mut.ensures.value None)

pub returns-else-len-eq1-clause-pieces : goal.returns-else-len-eq1-clause-pieces
returns-else-len-eq1-clause-pieces c =
    let k = c.args.key.now in let ps = c.args.pieces.now.items in let at = c.place_of-at.result in let p = c.index_mut.result.now in
    let place = subst (λ (x : List (List Item)). IsPlace k x at) c.as_slice.ensures.value c.place_of-at.ensures in
    let same : p ≡ c.index.result.now = c.index_mut.ensures.value ∙ get_or_default ps at p c.index.result.now place.low ∙ sym c.index.ensures in
    let n = length_removed k p (held_at k ps at p place c.index_mut.ensures.value c.requires.held) in
    let left = ap length c.remove-else-len-eq1.ensures in let size = ap length same in
    (put_at k None ps at p c.remove-else-len-eq1.new.self c.requires.pieces place c.index_mut.ensures.value c.remove-else-len-eq1.ensures
    (omega (arith, n, left, size, c.len.ensures, c.if-len-eq1.false))).are
