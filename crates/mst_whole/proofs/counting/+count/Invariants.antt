use Rattle.std.proofs.Common.{length, ◌≡◌, ◌+◌, ◌*◌, ◌<◌, ◌-◌}
use Rattle.std.specs.Prelude.{option_map}
use Rattle.mst_node.specs.Reading.{node_of}
use Rattle.mst_node.specs.FirstFault.{in_whole}
use Rattle.mst_node.specs.TreeReading.{part_at, rights_of}
use Rattle.mst_whole.specs.Counting.{count}
use Rattle.at_cid.specs.declared.limits.TheConstants.{NUMBERS}
use Rattle.mst_whole.proofs.Steps.{with_more}
use Rattle.mst_whole.proofs.counting.+count.Given as goal

abbrev pub decreases-count_below : goal.decreases-count_below
decreases-count_below l = 3 * l.layer

abbrev pub decreases-count_rest : goal.decreases-count_rest
decreases-count_rest l = 3 * l.layer + 1

abbrev pub decreases-count_parts : goal.decreases-count_parts
decreases-count_parts l = 3 * l.layer + 2

abbrev pub invariant-count_rest-entries : goal.invariant-count_rest-entries
invariant-count_rest-entries l = record {
  reads : with_more l.keys (count (rights_of (part_at in_whole node_of l.blocks l.layer) (option_map (λ k. k.now) l.high) l.rest)) ≡ count (rights_of (part_at in_whole node_of l.blocks l.layer) (option_map (λ k. k.now) l.high) l.entries);
  most : l.keys < NUMBERS;
}

abbrev pub decreases-count_rest-entries : goal.decreases-count_rest-entries
decreases-count_rest-entries l = length l.rest
