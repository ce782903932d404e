use Rattle.std.proofs.Common.{◌≡◌, length, map}
use Rattle.std.specs.List.{list_any}
use Rattle.std.specs.Str.{bytes_eq}
use Rattle.mst_list.specs.declared.op.Op.{Op}
use Rattle.relay_gen.specs.Records.{op_of}
use Rattle.relay_gen.proofs.drafting.is_changed.Given as goal

abbrev pub invariant-changes : goal.invariant-changes
invariant-changes l = list_any (λ (o : Op). bytes_eq o.key l.path) (map op_of l.rest) ≡ list_any (λ (o : Op). bytes_eq o.key l.path) (map op_of l.changes)

abbrev pub decreases-changes : goal.decreases-changes
decreases-changes l = length l.rest
