use Rattle.std.proofs.Common.{ap, rules, ◌+◌, ◌∙◌}
use Rattle.mst_node.proofs.Fronts.{run_grows}
use Rattle.mst_node.proofs.hashing.count_alike.Goals as goal

pub entries-preserved : goal.entries-preserved
entries-preserved g c = (
  ap (λ i. i + 1) c.entries.invariant.0,
  run_grows g.E.Keyed.entry c.args.count c.args.block.now c.as_slice.result.now c.args.entries.now c.entries.entry-index c.entry-item.result c.entries-test.true c.entry-item.is
      (c.as_slice.ensures.value ∙ c.key.ensures) (c.has_block.ensures (search rules)) c.entries.invariant.1,
)
