use Rattle.std.proofs.Common.{◌≡◌, ◌∙◌, ◌∷◌, List, suc, drop, sym, ap, subst, add-one, arith}
use Rattle.mst_list.specs.declared.item.Item.{Item}
use Rattle.mst_list.specs.declared.op.Op.{Op}
use Rattle.mst_list.specs.Edits.{AreApart}
use Rattle.mst_list.specs.Lists.{Ascends}
use Rattle.mst_list.specs.Maps.{AllApply}
use Rattle.mst_list.proofs.Clashes.{left_at}
use Rattle.whole_map.specs.Turns.{created}
use Rattle.whole_map.proofs.InTurns.{all_created_more, apply_created, created_ascends}
use Rattle.whole_map.proofs.whole_map.WholeMap.create_some.Goals as goal

pub create-requires : goal.create-requires
create-requires c =
    let s = c.loop-i.self in let ops = c.args.ops.now in let op = c.index-ops-i.result in
    let next = left_at ops c.loop-i.i op (omega arith) c.index-ops-i.is in
    (subst (λ (x : List Op). AllApply s x) next c.loop-i.invariant.apply).0

pub loop-i-preserved : goal.loop-i-preserved
loop-i-preserved c =
    let s = c.loop-i.self in let ops = c.args.ops.now in let op = c.index-ops-i.result in let i = c.loop-i.i in
    let rest = drop (suc i) ops in
    let next : drop i ops ≡ op ∷ rest = left_at ops i op (omega arith) c.index-ops-i.is in
    let apply = subst (λ (x : List Op). AllApply s x) next c.loop-i.invariant.apply in
    let apart = subst (λ (x : List Op). AreApart x) next c.loop-i.invariant.apart in
    let done : c.create.new.self ≡ created op s = c.in-Ok.ensures.created in
    record {
      created = rw add-one (done ∙ ap (created op) c.loop-i.invariant.created ∙ sym (all_created_more c.args.self.now ops i op (omega arith) c.index-ops-i.is));
      ascends = subst (λ (x : List Item). Ascends x) (sym done) (created_ascends op s c.loop-i.invariant.ascends);
      apply = rw add-one (subst (λ (x : List Item). AllApply x rest) (sym done) (apply_created op s rest c.loop-i.invariant.ascends apart.0 apply.1));
      apart = rw add-one apart.1;
    }
