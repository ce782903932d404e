use Rattle.std.proofs.Common.{◌≤◌, List, ℕ, length, take, refl, sym, ◌∙◌, ap, subst, arith}
use Rattle.relay_disk.specs.Disk.{Torn, written}
use Rattle.relay_disk.specs.Works.{wrote}
use Rattle.relay_disk.specs.Memory.{works_of}
use Rattle.relay_disk.proofs.Works.{torn_whole, wrote_goes}
use Rattle.relay_disk.proofs.Alike.{still_alike}
use Rattle.relay_disk.proofs.SinceSync.{still_inside}
use Rattle.relay_disk.proofs.KeptCalls.{recorded_by, still_kept, next_moment, next_goes, content_after, settled_after, inside_after, wrote_whole}
use Rattle.relay_disk.proofs.memory.MemoryDiskDisk.write_at.Goals as goal

pub invariant_of-self-2-clause-kept : goal.invariant_of-self-2-clause-kept
invariant_of-self-2-clause-kept c = still_kept (recorded_by c.keep.ensures.calls c.keep.ensures.pieces c.args.self.now.kept (omega arith))

pub invariant_of-self-2-clause-in_step : goal.invariant_of-self-2-clause-in_step
invariant_of-self-2-clause-in_step c =
    c.put.ensures.items ∙ ap (λ (l : List ℕ). written c.args.place c.args.piece.now l) c.args.self.now.in_step
    ∙ content_after _ _ _ (next_moment (recorded_by c.keep.ensures.calls c.keep.ensures.pieces c.args.self.now.kept (omega arith)) c.args.self.now.first.items _ (wrote_whole c.args.place c.args.piece.now)) refl

pub invariant_of-self-2-clause-in_sync : goal.invariant_of-self-2-clause-in_sync
invariant_of-self-2-clause-in_sync c = settled_after _ _ _ (next_moment (recorded_by c.keep.ensures.calls c.keep.ensures.pieces c.args.self.now.kept (omega arith)) c.args.self.now.first.items _ (wrote_whole c.args.place c.args.piece.now)) c.args.self.now.in_sync

pub invariant_of-self-2-clause-inside : goal.invariant_of-self-2-clause-inside
invariant_of-self-2-clause-inside c =
    inside_after _ _ _ (next_moment (recorded_by c.keep.ensures.calls c.keep.ensures.pieces c.args.self.now.kept (omega arith)) c.args.self.now.first.items _ (wrote_whole c.args.place c.args.piece.now))
    (still_inside c.args.self.now.first.items (works_of c.args.self.now.calls.items c.args.self.now.pieces.items) (wrote c.args.place c.args.piece.now) _ c.args.self.now.in_sync c.args.self.now.inside (c.requires.inside refl, tt))

pub returns-clause-goes : goal.returns-clause-goes
returns-clause-goes c =
    next_goes (recorded_by c.keep.ensures.calls c.keep.ensures.pieces c.args.self.now.kept (omega arith)) c.args.self.now.first.items _ (wrote_whole c.args.place c.args.piece.now) (Torn c.args.place (length c.args.piece.now)) _ _
    (wrote_goes c.args.self.now.first.items _ _ _ c.take.ensures.counts c.args.place c.args.piece.now (c.requires.inside refl))

pub invariant_of-self-2-clause-alike : goal.invariant_of-self-2-clause-alike
invariant_of-self-2-clause-alike c =
    still_alike c.args.self.now.unchanged c.args.place _ _ _ _ (omega (arith, c.min-self.ensures)) (omega (arith, c.min-self.ensures)) c.args.self.now.alike
    (ap (λ (l : List ℕ). take c.args.place l) c.put.ensures.items ∙ (torn_whole c.args.place c.args.piece.now c.args.self.now.content.items (subst (λ (l : List ℕ). c.args.place ≤ length l) (sym c.args.self.now.in_step) (c.requires.inside refl))).before)
