use Rattle.std.proofs.Common.{rules}
use Rattle.std.proofs.lemmas.List.Sorted.{IsPartitionPoint-from_clause}
use Rattle.relay_gen.specs.Records.{is_below}
use Rattle.relay_gen.proofs.Sorted.{parted, place_is}
use Rattle.relay_gen.proofs.records.place_of.Goals as goal

pub returns-clause-is : goal.returns-clause-is
returns-clause-is c =
    let k = c.args.path.now in
    let point = IsPartitionPoint-from_clause (is_below k) _ _ c.partition_point.ensures.partitioned (parted k c.args.records.now c.requires) (λ a r q f. search rules) in
    place_is k c.args.records.now c.partition_point.result c.partition_point.ensures.bound point
