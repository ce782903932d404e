use Rattle.std.proofs.Common.{refl}
use Rattle.relay_disk.proofs.KeptCalls.{recorded_by, still_kept, same_moment, same_goes, content_after, settled_after, inside_after}
use Rattle.relay_disk.proofs.memory.MemoryDiskDisk.read.Goals as goal

pub invariant_of-self-2-clause-kept : goal.invariant_of-self-2-clause-kept
invariant_of-self-2-clause-kept c = still_kept (recorded_by c.keep.ensures.calls c.keep.ensures.pieces c.args.self.now.kept refl)

pub invariant_of-self-2-clause-in_step : goal.invariant_of-self-2-clause-in_step
invariant_of-self-2-clause-in_step c = content_after _ _ _ (same_moment (recorded_by c.keep.ensures.calls c.keep.ensures.pieces c.args.self.now.kept refl) c.args.self.now.first.items refl) c.args.self.now.in_step

pub invariant_of-self-2-clause-in_sync : goal.invariant_of-self-2-clause-in_sync
invariant_of-self-2-clause-in_sync c = settled_after _ _ _ (same_moment (recorded_by c.keep.ensures.calls c.keep.ensures.pieces c.args.self.now.kept refl) c.args.self.now.first.items refl) c.args.self.now.in_sync

pub invariant_of-self-2-clause-inside : goal.invariant_of-self-2-clause-inside
invariant_of-self-2-clause-inside c = inside_after _ _ _ (same_moment (recorded_by c.keep.ensures.calls c.keep.ensures.pieces c.args.self.now.kept refl) c.args.self.now.first.items refl) c.args.self.now.inside

pub returns-clause-goes : goal.returns-clause-goes
returns-clause-goes c = same_goes (recorded_by c.keep.ensures.calls c.keep.ensures.pieces c.args.self.now.kept refl) c.args.self.now.first.items refl _ _ c.take.ensures.counts
