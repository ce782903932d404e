use Rattle.std.proofs.Common.{◌≡◌, ◌∙◌, ◌++◌, ◌+◌, ◌<◌, List, Option, length, set, insert, sym, ap, subst, IfSome}
use Rattle.mst_list.specs.declared.item.Item.{Item}
use Rattle.whole_map.specs.Pieces.{ArePieces, flatten}
use Rattle.whole_map.proofs.Edits.{cut_at}
use Rattle.whole_map.proofs.pieces.split_full.Goals as goal

halves : (c : goal.In-Ok) → let R = c.reserve.new.self.items in let qs = insert (set R c.args.at c.split_full.new.self) (c.args.at + 1) c.in-Some.upper in (flatten qs ≡ flatten R) × ArePieces qs
halves c =
    let R = c.reserve.new.self.items in let p = c.index_mut.result.now in let lower = c.split_full.new.self in
    let same = c.in_ok-reserve.ensures.items in
    let cut = subst (λ (o : Option (List Item)). IfSome o (λ u. p ≡ lower ++ u)) c.in-Some.is c.in_ok-upper.ensures.halves in
    let some = subst (λ (o : Option (List Item)). IfSome o (λ u. (0 < length lower) × (0 < length u))) c.in-Some.is c.in_ok-upper.ensures.some in
    cut_at R c.args.at p lower c.in-Some.upper (subst (λ (x : List (List Item)). ArePieces x) (sym same) c.requires.pieces)
    (subst (λ (x : List (List Item)). c.args.at < length x) (sym same) c.requires.place) c.index_mut.ensures.value cut some.0 some.1

pub returns-clause-map : goal.returns-clause-map
returns-clause-map c = ap flatten c.in-Ok.ensures.items ∙ (halves c).0 ∙ ap flatten c.in_ok-reserve.ensures.items

pub returns-clause-pieces : goal.returns-clause-pieces
returns-clause-pieces c = subst (λ (x : List (List Item)). ArePieces x) (sym c.in-Ok.ensures.items) (halves c).1
