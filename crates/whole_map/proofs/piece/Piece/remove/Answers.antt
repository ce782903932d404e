use Rattle.std.proofs.Common.{◌∙◌, List, None, Ok, ap, subst, length, arith}
use Rattle.mst_list.specs.declared.item.Item.{Item}
use Rattle.mst_list.specs.Edits.{put}
use Rattle.mst_list.specs.Maps.{IsFound}
use Rattle.whole_map.proofs.Entries.{put_piece, removed}
use Rattle.whole_map.proofs.Sizes.{length_removed}
use Rattle.whole_map.proofs.piece.Piece.remove.Goals as goal

pub invariant_of-self : goal.invariant_of-self
invariant_of-self c =
    let k = c.args.key.now in let s = c.self.inside.items.items in let at = c.in-Ok.at in
    let found = subst (λ (x : List Item). IsFound k x (Ok at)) c.as_slice.ensures.value c.in-Ok.ensures in
    let gone = c.take_out.ensures ∙ removed k s at found in
    let n = length_removed k s found.3 in let m = ap length c.self.view_is in let less = c.requires.others in
    put_piece k None s _ c.self.invariant gone (let p = ap length gone in omega arith)

pub returns-in-Ok : goal.returns-in-Ok
returns-in-Ok c =
    let k = c.args.key.now in let s = c.self.inside.items.items in let at = c.in-Ok.at in
    let found = subst (λ (x : List Item). IsFound k x (Ok at)) c.as_slice.ensures.value c.in-Ok.ensures in
    c.take_out.ensures ∙ removed k s at found ∙ ap (λ (x : List Item). put k None x) c.self.view_is
