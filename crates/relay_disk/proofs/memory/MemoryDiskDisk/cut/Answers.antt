use Rattle.std.proofs.Common.{List, ℕ, take, refl, ◌∙◌, ap, arith}
use Rattle.std.proofs.lemmas.List.{take-take}
use Rattle.relay_disk.specs.Disk.{Cut}
use Rattle.relay_disk.specs.Works.{cut_to}
use Rattle.relay_disk.specs.Memory.{works_of}
use Rattle.relay_disk.proofs.Works.{cut_to_goes}
use Rattle.relay_disk.proofs.Alike.{still_alike}
use Rattle.relay_disk.proofs.SinceSync.{still_inside}
use Rattle.relay_disk.proofs.KeptCalls.{recorded_by, still_kept, next_moment, next_goes, content_after, settled_after, inside_after}
use Rattle.relay_disk.proofs.memory.MemoryDiskDisk.cut.Goals as goal

pub invariant_of-self-2-clause-kept : goal.invariant_of-self-2-clause-kept
invariant_of-self-2-clause-kept c = still_kept (recorded_by c.keep.ensures.calls c.keep.ensures.pieces c.args.self.now.kept refl)

pub invariant_of-self-2-clause-in_step : goal.invariant_of-self-2-clause-in_step
invariant_of-self-2-clause-in_step c =
    c.truncate.ensures.items ∙ ap (λ (l : List ℕ). take c.args.size l) c.args.self.now.in_step
    ∙ content_after _ _ _ (next_moment (recorded_by c.keep.ensures.calls c.keep.ensures.pieces c.args.self.now.kept refl) c.args.self.now.first.items _ refl) refl

pub invariant_of-self-2-clause-in_sync : goal.invariant_of-self-2-clause-in_sync
invariant_of-self-2-clause-in_sync c = settled_after _ _ _ (next_moment (recorded_by c.keep.ensures.calls c.keep.ensures.pieces c.args.self.now.kept refl) c.args.self.now.first.items _ refl) c.args.self.now.in_sync

pub invariant_of-self-2-clause-inside : goal.invariant_of-self-2-clause-inside
invariant_of-self-2-clause-inside c =
    inside_after _ _ _ (next_moment (recorded_by c.keep.ensures.calls c.keep.ensures.pieces c.args.self.now.kept refl) c.args.self.now.first.items _ refl) (still_inside c.args.self.now.first.items (works_of c.args.self.now.calls.items c.args.self.now.pieces.items) (cut_to c.args.size) _ c.args.self.now.in_sync c.args.self.now.inside tt)

pub returns-clause-goes : goal.returns-clause-goes
returns-clause-goes c =
    next_goes (recorded_by c.keep.ensures.calls c.keep.ensures.pieces c.args.self.now.kept refl) c.args.self.now.first.items _ refl (Cut c.args.size) _ _ (cut_to_goes c.args.self.now.first.items _ _ _ c.take.ensures.counts c.args.size)

pub invariant_of-self-2-clause-alike : goal.invariant_of-self-2-clause-alike
invariant_of-self-2-clause-alike c =
    still_alike c.args.self.now.unchanged c.args.size _ _ _ _ (omega (arith, c.min-self.ensures)) (omega (arith, c.min-self.ensures)) c.args.self.now.alike
    (ap (λ (l : List ℕ). take c.args.size l) c.truncate.ensures.items ∙ take-take c.args.size c.args.size c.args.self.now.content.items (omega arith))
