use Rattle.std.proofs.Common.{◌≡◌, map, sym, ap, ◌∙◌, subst}
use Rattle.std.proofs.lemmas.Result.{IfOk-weaker}
use Rattle.mst_list.specs.Edits.{AreApart, undone}
use Rattle.mst_list.specs.Maps.{edited}
use Rattle.relay_gen.specs.Records.{op_of}
use Rattle.relay_gen.proofs.Plays.{turned_apart, undone_turned}
use Rattle.relay_gen.proofs.account.changed.Goals as goal

pub undo-requires : goal.undo-requires
undo-requires c = subst AreApart (sym c.in_ok-ops.ensures) (turned_apart (map op_of c.args.changes.now) c.requires.can.apart)

pub returns-in-Ok : goal.returns-in-Ok
returns-in-Ok c =
    let s = c.args.tree in let ops = map op_of c.args.changes.now in
    let left : c.in-Ok.left ≡ edited s ops = c.in-Ok.ensures.undone ∙ ap (undone s) c.in_ok-ops.ensures ∙ undone_turned ops s in
    IfOk-weaker c.settled.result _ _ (λ x e. e ∙ left) c.settled.ensures
