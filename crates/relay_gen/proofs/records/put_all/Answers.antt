use Rattle.std.proofs.Common.{◌≡◌, suc, ◌∷◌, drop, map, sym, ap, ◌∙◌, subst, add-one, drop-cons}
use Rattle.mst_list.specs.Lists.{Ascends}
use Rattle.mst_list.specs.Maps.{edited}
use Rattle.mst_list.proofs.Seen.{edit_law}
use Rattle.relay_gen.specs.Records.{item_of, op_of}
use Rattle.relay_gen.proofs.records.put_all.Goals as goal

pub loop-change-preserved : goal.loop-change-preserved
loop-change-preserved c =
    let F = map item_of c.loop-change.records.items in let cs = c.args.changes.now in let i = c.loop-change.change-index in let ch = c.change-item.result in let rest = drop (suc i) cs in
    let here : drop i cs ≡ ch ∷ rest = drop-cons cs i ch c.loop-change-test.true ∙ ap (λ y. y ∷ rest) (sym c.change-item.is) in
    rw add-one (record {
      ascends = subst Ascends (sym c.in_ok-put.ensures) (edit_law F ch.path ch.now c.loop-change.invariant.ascends).ascends;
      rest = ap (λ G. edited G (map op_of rest)) c.in_ok-put.ensures ∙ ap (λ x. edited F (map op_of x)) (sym here) ∙ c.loop-change.invariant.rest;
    })
