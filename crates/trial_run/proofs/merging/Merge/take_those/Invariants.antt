use Rattle.std.proofs.Common.{◌++◌, take, option_map}
use Rattle.relay_disk.specs.MemoryView.{memory_view}
use Rattle.trial_run.specs.Merging.{Sent}
use Rattle.trial_run.specs.Taking.{IsMerged, those}
use Rattle.trial_run.proofs.merging.Merge.take_those.Given as goal

abbrev pub invariant-messages : goal.invariant-messages
invariant-messages l = record {
  merged : (before : Sent) → IsMerged before l.fn.self (memory_view l.fn.disk) → IsMerged (before ++ those (option_map (λ text. text.now) l.wanted) (take l.i l.history.messages)) l.self (memory_view l.disk);
  some : (sent : Sent) × IsMerged sent l.self (memory_view l.disk);
}
