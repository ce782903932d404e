use Rattle.std.proofs.Common.{◌≡◌, ◌≤◌, max, drop}
use Rattle.mst_list.specs.declared.limits.TheConstants.{MOST_HEIGHT}
use Rattle.mst_node.specs.Trees.{top_layer}
use Rattle.mirror.proofs.root.top_layer.Given as goal

abbrev pub invariant-loop-item : goal.invariant-loop-item
invariant-loop-item l = record {
  value : max l.top (top_layer (drop l.item-index l.items)) ≡ top_layer l.items;
  most : l.top ≤ MOST_HEIGHT;
}
