use Rattle.std.proofs.Common.{rules}
use Rattle.std.proofs.lemmas.List.Sorted.{IsPartitionPoint-from_clause}
use Rattle.event_window.specs.Window.{is_at_most}
use Rattle.event_window.proofs.Searches.{parted, found_at}
use Rattle.event_window.proofs.window.upto.Goals as goal

pub returns-clause-upto : goal.returns-clause-upto
returns-clause-upto c = λ above.
    let point = IsPartitionPoint-from_clause (is_at_most c.args.seq) _ _ c.partition_point.ensures.partitioned (parted c.args.seq 0 c.args.places.now above) (λ a r q f. search rules) in
    found_at c.args.seq c.args.places.now c.partition_point.result c.partition_point.ensures.bound point
