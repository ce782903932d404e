use Rattle.std.proofs.Common.{refl, ◌∙◌}
use Rattle.relay_disk.specs.Disk.{Same}
use Rattle.relay_disk.specs.MemoryView.{moment_of}
use Rattle.relay_disk.proofs.Works.{synced_goes}
use Rattle.relay_disk.proofs.KeptCalls.{recorded_by, still_kept, next_moment, next_goes, content_after, settled_after, inside_after, synced_only}
use Rattle.relay_disk.proofs.memory.MemoryDiskDisk.sync.Goals as goal

pub invariant_of-self-2-clause-kept : goal.invariant_of-self-2-clause-kept
invariant_of-self-2-clause-kept c = still_kept (recorded_by c.keep.ensures.calls c.keep.ensures.pieces c.args.self.now.kept refl)

pub invariant_of-self-2-clause-in_step : goal.invariant_of-self-2-clause-in_step
invariant_of-self-2-clause-in_step c = content_after _ _ _ (next_moment (recorded_by c.keep.ensures.calls c.keep.ensures.pieces c.args.self.now.kept refl) c.args.self.now.first.items _ refl) c.args.self.now.in_step

pub invariant_of-self-2-clause-in_sync : goal.invariant_of-self-2-clause-in_sync
invariant_of-self-2-clause-in_sync c = settled_after _ _ _ (next_moment (recorded_by c.keep.ensures.calls c.keep.ensures.pieces c.args.self.now.kept refl) c.args.self.now.first.items _ refl) (c.settle.ensures.items ∙ c.deref.ensures.value ∙ c.args.self.now.in_step)

pub invariant_of-self-2-clause-inside : goal.invariant_of-self-2-clause-inside
invariant_of-self-2-clause-inside c = inside_after _ _ _ (next_moment (recorded_by c.keep.ensures.calls c.keep.ensures.pieces c.args.self.now.kept refl) c.args.self.now.first.items _ refl) tt

pub returns-clause-ok : goal.returns-clause-ok
returns-clause-ok c tells = synced_only (moment_of c.args.self.now) _ (next_moment (recorded_by c.keep.ensures.calls c.keep.ensures.pieces c.args.self.now.kept refl) c.args.self.now.first.items _ refl)

pub returns-clause-goes : goal.returns-clause-goes
returns-clause-goes c = next_goes (recorded_by c.keep.ensures.calls c.keep.ensures.pieces c.args.self.now.kept refl) c.args.self.now.first.items _ refl Same _ _ (synced_goes c.args.self.now.first.items _ _ _ c.take.ensures.counts)
