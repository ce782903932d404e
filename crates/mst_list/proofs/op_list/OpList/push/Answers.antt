use Rattle.std.proofs.Common.{◌∷◌, [], length, ap, arith, length-append}
use Rattle.mst_list.proofs.Formed.{ops_more}
use Rattle.mst_list.proofs.op_list.OpList.push.Goals as goal

pub invariant_of-self-2 : goal.invariant_of-self-2
invariant_of-self-2 c =
    let old = c.self.inside.ops.items in
    let len = ap length c.in_ok-push.ensures.items in let more = length-append old (c.args.op ∷ []) in let same = ap length c.self.view_is in let few = c.requires.few in
    (omega arith, ops_more old c.push.new.self.items c.args.op c.in_ok-push.ensures.items c.self.invariant.1 c.requires.formed)
