use Rattle.std.proofs.Common.{◌≡◌, suc, ◌-◌, set, ap, ◌∙◌, arith}
use Rattle.mst_undo.specs.Gaps.{gap_at, first_with, parts_with}
use Rattle.mst_undo.proofs.Nodes.{gap_behind, set_with}
use Rattle.mst_undo.proofs.gaps.replace_gap.Goals as goal

pub returns-clause-gap : goal.returns-clause-gap
returns-clause-gap c =
    let f = c.args.first.now in let ps = c.args.rest.now.items in let n = c.args.at in let some = c.if-at-eq0.false in let low = c.requires in
    let next : suc (n - 1) ≡ n = omega arith in
    c.replace-2.ensures.value ∙ gap_behind (n - 1) f ps c.index_mut-part.result.now (omega arith) c.index_mut-part.ensures.value ∙ ap (λ m. gap_at m f ps) next

pub returns-clause-filled : goal.returns-clause-filled
returns-clause-filled c =
    let f = c.args.first.now in let ps = c.args.rest.now.items in let n = c.args.at in let some = c.if-at-eq0.false in let low = c.requires in let p = c.index_mut-part.result.now in
    let next : suc (n - 1) ≡ n = omega arith in
    record {
      first = ap (λ m. first_with m c.args.below f) next;
      rest = ap (λ x. set ps (n - 1) (record { key = p.key; value = p.value; below = x })) c.replace-2.ensures.after ∙ set_with (n - 1) c.args.below ps p (omega arith) c.index_mut-part.ensures.value ∙ ap (λ m. parts_with m c.args.below ps) next;
    }
