use Rattle.std.proofs.Common.{drop}
use Rattle.mst_list.specs.Lists.{KeysOnly}
use Rattle.mirror.proofs.syncing.has_keys_only.Given as goal

abbrev pub invariant-loop-item : goal.invariant-loop-item
invariant-loop-item l = record {
  whole : KeysOnly (drop l.item-index l.items) → KeysOnly l.items;
  back : KeysOnly l.items → KeysOnly (drop l.item-index l.items);
}
