use Rattle.std.proofs.Common.{◌≡◌, ◌-◌, [], map}
use Rattle.relay_gen.specs.Drafts.{with_more}
use Rattle.relay_gen.specs.Records.{item_of, op_of}
use Rattle.relay_gen.proofs.drafting.draft.Given as goal

abbrev pub invariant-loop-place : goal.invariant-loop-place
invariant-loop-place l = with_more (map item_of l.records) l.number l.place (l.count - l.place) (record { ops = map op_of l.changes.items; state = l.draws }) ≡ with_more (map item_of l.records) l.number 0 l.count (record { ops = []; state = l.initial.draws })
