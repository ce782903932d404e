use Rattle.std.proofs.Common.{◌≡◌, suc, ◌-◌, ap, ◌∙◌, arith}
use Rattle.mst_undo.specs.Gaps.{gap_at}
use Rattle.mst_undo.proofs.Nodes.{gap_behind}
use Rattle.mst_undo.proofs.gaps.gap.Goals as goal

pub returns : goal.returns
returns c =
    let f = c.args.first.now in let ps = c.args.parts.now in let n = c.args.at in let some = c.if-at-eq0.false in let low = c.requires in
    let next : suc (n - 1) ≡ n = omega arith in
    gap_behind (n - 1) f ps c.index-parts-at.result (omega arith) c.index-parts-at.is ∙ ap (λ m. gap_at m f ps) next
