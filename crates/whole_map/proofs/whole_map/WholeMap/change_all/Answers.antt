use Rattle.std.proofs.Common.{◌≡◌, ◌∙◌, ◌∷◌, List, suc, drop, sym, ap, subst, add-one, arith}
use Rattle.mst_list.specs.declared.item.Item.{Item}
use Rattle.mst_list.specs.declared.op.Op.{Op}
use Rattle.mst_list.specs.Edits.{AreApart}
use Rattle.mst_list.specs.Lists.{Ascends}
use Rattle.mst_list.proofs.Clashes.{left_at}
use Rattle.whole_map.specs.Turns.{ChangesApply, all_changed, changed}
use Rattle.whole_map.proofs.InTurns.{changed_ascends, changes_kept}
use Rattle.whole_map.proofs.whole_map.WholeMap.change_all.Goals as goal

pub change-requires : goal.change-requires
change-requires c =
    let s = c.loop-op.self in let ops = c.args.ops.now in let op = c.op-item.result in
    let next = left_at ops c.loop-op.op-index op (omega arith) c.op-item.is in
    (subst (λ (x : List Op). ChangesApply s x) next c.loop-op.invariant.apply).0

pub loop-op-preserved : goal.loop-op-preserved
loop-op-preserved c =
    let s = c.loop-op.self in let ops = c.args.ops.now in let op = c.op-item.result in let i = c.loop-op.op-index in
    let rest = drop (suc i) ops in
    let next : drop i ops ≡ op ∷ rest = left_at ops i op (omega arith) c.op-item.is in
    let apply = subst (λ (x : List Op). ChangesApply s x) next c.loop-op.invariant.apply in
    let apart = subst (λ (x : List Op). AreApart x) next c.loop-op.invariant.apart in
    let done : c.change.new.self ≡ changed op s = c.change.ensures in
    record {
      left = rw add-one (ap (λ (x : List Item). all_changed x rest) done ∙ sym (ap (all_changed s) next) ∙ c.loop-op.invariant.left);
      ascends = subst (λ (x : List Item). Ascends x) (sym done) (changed_ascends op s c.loop-op.invariant.ascends);
      apply = rw add-one (subst (λ (x : List Item). ChangesApply x rest) (sym done) (changes_kept op s rest c.loop-op.invariant.ascends apart.0 apply.1));
      apart = rw add-one apart.1;
    }
