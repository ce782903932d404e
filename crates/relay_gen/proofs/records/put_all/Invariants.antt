use Rattle.std.proofs.Common.{◌≡◌, drop, map}
use Rattle.mst_list.specs.Lists.{Ascends}
use Rattle.mst_list.specs.Maps.{edited}
use Rattle.relay_gen.specs.Records.{item_of, op_of}
use Rattle.relay_gen.proofs.records.put_all.Given as goal

abbrev pub invariant-loop-change : goal.invariant-loop-change
invariant-loop-change l = record {
  ascends : Ascends (map item_of l.records.items);
  rest : edited (map item_of l.records.items) (map op_of (drop l.change-index l.changes)) ≡ edited (map item_of l.fn.records.items) (map op_of l.changes);
}
