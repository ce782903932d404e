use Rattle.std.proofs.Common.{◌≡◌, ◌∙◌, ◌<◌, ℕ, List, Some, Err, ap, sym, subst, length}
use Rattle.mst_list.specs.declared.item.Item.{Item}
use Rattle.mst_list.specs.Edits.{put}
use Rattle.mst_list.specs.Maps.{IsFound}
use Rattle.whole_map.proofs.Entries.{inserted, put_piece}
use Rattle.whole_map.proofs.Sizes.{length_put}
use Rattle.whole_map.proofs.piece.Piece.insert.Goals as goal

is_put : (c : goal.In_ok-insert) → c.insert.new.self.items ≡ put c.args.key (Some c.args.link) c.self.inside.items.items
is_put c =
    let k = c.args.key in let s = c.make_room.new.items.items in let at = c.in-Err.at in
    let named = subst (λ (x : List ℕ). IsFound x c.as_slice.result.now (Err at)) c.as_slice-2.ensures.value c.in-Err.ensures in
    let found = subst (λ (x : List Item). IsFound k x (Err at)) c.as_slice.ensures.value named in
    c.in_ok-insert.ensures.items ∙ inserted k s at c.args.link found ∙ ap (λ (x : List Item). put k (Some c.args.link) x) c.make_room.ensures

pub invariant_of-self-in-Continue-branch-2 : goal.invariant_of-self-in-Continue-branch-2
invariant_of-self-in-Continue-branch-2 c =
    let s = c.self.inside.items.items in let is = is_put c in
    put_piece c.args.key (Some c.args.link) s _ c.self.invariant is (subst (λ (x : List Item). 0 < length x) (sym is) (length_put c.args.key c.args.link s))

pub returns-in_ok-insert-clause-put : goal.returns-in_ok-insert-clause-put
returns-in_ok-insert-clause-put c = is_put c ∙ ap (λ (x : List Item). put c.args.key (Some c.args.link) x) c.self.view_is
