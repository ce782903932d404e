use Rattle.std.proofs.Common.{◌≡◌, min, length, add-one, ap, ◌∙◌, arith}
use Rattle.at_cbor.specs.Encoding.{encoding}
use Rattle.mst_node.specs.NodeBytes.{entry_item}
use Rattle.mst_node.proofs.Lengths.{node_begun, node_gone_on, node_ended}
use Rattle.mst_node.proofs.writing.encoded_len.Goals as goal

pub loop-entry-init : goal.loop-entry-init
loop-entry-init c = record {
  within = omega (arith, c.bare_len-sum.ensures);
  so_far = node_begun 18446744073709551615 c.bare_len-sum.result c.args.left.now c.args.entries.now c.bare_len-sum.ensures;
}

pub loop-entry-preserved : goal.loop-entry-preserved
loop-entry-preserved c =
    let last = c.loop-entry.last.now in let e = c.entry-item.result in
    let added : c.entry_len.result ≡ min (length (encoding (entry_item last e))) 18446744073709551615 =
    c.entry_len.ensures ∙ ap (λ x. min (length (encoding (entry_item last x))) 18446744073709551615) c.lend.ensures in
    record {
      within = omega (arith, c.saturating_add-sum.ensures);
      so_far = rw (add-one, c.as_slice-last.ensures.value)
          (node_gone_on 18446744073709551615 c.loop-entry.sum c.entry_len.result c.saturating_add-sum.result _ last c.args.entries.now c.loop-entry.entry-index e
          (omega arith) c.entry-item.is added c.saturating_add-sum.ensures c.loop-entry.invariant.so_far);
    }

pub returns : goal.returns
returns c = node_ended 18446744073709551615 c.loop-entry.sum _ c.loop-entry.last.now c.args.entries.now c.loop-entry.entry-index c.loop-entry-test.false c.loop-entry.invariant.within c.loop-entry.invariant.so_far
