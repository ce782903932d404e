use Rattle.std.proofs.Common.{◌-◌, length, sym, ap, ◌∙◌, subst, arith}
use Rattle.mst_list.specs.Lists.{IsKey}
use Rattle.relay_gen.proofs.Plays.{few_turned, formed_at}
use Rattle.relay_gen.proofs.account.turned.Goals as goal

pub push-requires-clause-formed : goal.push-requires-clause-formed
push-requires-clause-formed c =
    let low = c.loop-left.invariant.low in let some = c.loop-left-test.true in
    let f = formed_at c.args.changes.now (c.loop-left.left - 1) c.index-changes-left.result c.requires.formed (omega arith) c.index-changes-left.is in
    (subst IsKey (sym (c.in_ok-from_slice.ensures ∙ c.as_bytes.ensures.value)) f.0, f.2, f.1, λ none was. f.3 was none)

pub push-requires-clause-few : goal.push-requires-clause-few
push-requires-clause-few c =
    let few = few_turned c.loop-left.left c.args.changes.now in let e = ap length c.loop-left.invariant.ops in let four = c.requires.few in omega arith
