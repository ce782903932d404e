use Rattle.std.proofs.Common.{◌≡◌, ◌∙◌, ◌<◌, List, Some, Ok, ap, sym, subst, length, set}
use Rattle.mst_list.specs.declared.item.Item.{Item}
use Rattle.mst_list.specs.Edits.{put}
use Rattle.mst_list.specs.Maps.{IsFound}
use Rattle.whole_map.proofs.Entries.{put_piece, relinked}
use Rattle.whole_map.proofs.Sizes.{length_put}
use Rattle.whole_map.proofs.piece.Piece.set.Goals as goal

is_put : (c : goal.After-self-1) → set c.self.inside.items.items c.in-Ok.at c.set_link.new.item ≡ put c.args.key.now (Some c.args.link) c.self.inside.items.items
is_put c =
    let k = c.args.key.now in let s = c.self.inside.items.items in let at = c.in-Ok.at in
    let found = subst (λ (x : List Item). IsFound k x (Ok at)) c.as_slice.ensures.value c.in-Ok.ensures in
    ap (λ (x : Item). set s at x) c.set_link.ensures ∙ relinked k s at c.args.link c.index_mut.result.now found c.index_mut.ensures.value

pub invariant_of-self : goal.invariant_of-self
invariant_of-self c =
    let s = c.self.inside.items.items in let is = is_put c in
    put_piece c.args.key.now (Some c.args.link) s _ c.self.invariant is (subst (λ (x : List Item). 0 < length x) (sym is) (length_put c.args.key.now c.args.link s))

pub returns-in-Ok : goal.returns-in-Ok
returns-in-Ok c = is_put c ∙ ap (λ (x : List Item). put c.args.key.now (Some c.args.link) x) c.self.view_is
