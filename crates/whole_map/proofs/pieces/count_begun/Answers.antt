use Rattle.std.proofs.Common.{rules}
use Rattle.std.proofs.lemmas.List.Sorted.{IsPartitionPoint-from_clause}
use Rattle.whole_map.specs.Pieces.{begins_by}
use Rattle.whole_map.proofs.Places.{parted}
use Rattle.whole_map.proofs.pieces.count_begun.Goals as goal

pub returns : goal.returns
returns c =
    let k = c.args.key.now in let ps = c.args.pieces.now in
    let point = IsPartitionPoint-from_clause (begins_by k) _ _ c.partition_point.ensures.partitioned (parted k ps c.requires.ascends c.requires.whole c.requires.filled) (λ a r q f. search rules) in
    (c.partition_point.ensures.bound, point)
