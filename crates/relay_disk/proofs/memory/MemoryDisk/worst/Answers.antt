use Rattle.std.proofs.Common.{Vec, Global, List, ℕ, length, ap, subst, ◌∙◌}
use Rattle.relay_disk.specs.Ranges.{AreInside}
use Rattle.relay_disk.specs.Memory.{inverted_from}
use Rattle.relay_disk.specs.MemoryView.{moment_of}
use Rattle.relay_disk.proofs.WorstImages.{first_offered, second_offered, third_offered}
use Rattle.relay_disk.proofs.memory.MemoryDisk.worst.Goals.{in-0+in_ok-image-in-0, in-1+in_ok-image-in-1, in-2+in_ok-image-in-2}
use Rattle.relay_disk.proofs.memory.MemoryDisk.worst.Goals as goal

pub returns-clause-image : goal.returns-clause-image
returns-clause-image c =
    let self = c.args.self.now in
    let fresh = c.in_ok-new.ensures.content.content ∙ c.deref-2.ensures.value in
    elim c.match-i.branch [
      | in-0+in_ok-image-in-0 w ↦
          (first_offered self.first.items self.calls.items self.pieces.items _ _ w.in-0.is
          (fresh ∙ ap (λ (v : Vec ℕ Global). v.items) w.image-is ∙ w.in_ok-image-in-0.ensures.items ∙ w.deref.ensures.value ∙ self.in_step)).worst
      | in-1+in_ok-image-in-1 w ↦
          (second_offered self.first.items self.calls.items self.pieces.items _ _ w.in-1.is
          (fresh ∙ ap (λ (v : Vec ℕ Global). v.items) w.image-is ∙ w.in_ok-image-in-1.ensures.items ∙ w.deref-in-1.ensures.value ∙ self.in_sync)).worst
      | in-2+in_ok-image-in-2 w ↦
          (third_offered self.first.items self.calls.items self.pieces.items _ _ w.in-2.is self.kept (subst (λ (l : List ℕ). AreInside (length l) (moment_of self).since) self.in_sync self.inside)
          (fresh ∙ ap (λ (v : Vec ℕ Global). v.items) w.image-is ∙ w.in_ok-image-in-2.ensures ∙ (λ i. inverted_from 0 (w.deref-in-2-2.ensures.value i) ((w.deref-in-2.ensures.value ∙ self.in_step) i)))).worst
    ]

pub returns-clause-left : goal.returns-clause-left
returns-clause-left c =
    let self = c.args.self.now in
    let fresh = c.in_ok-new.ensures.content.content ∙ c.deref-2.ensures.value in
    elim c.match-i.branch [
      | in-0+in_ok-image-in-0 w ↦
          (first_offered self.first.items self.calls.items self.pieces.items _ _ w.in-0.is
          (fresh ∙ ap (λ (v : Vec ℕ Global). v.items) w.image-is ∙ w.in_ok-image-in-0.ensures.items ∙ w.deref.ensures.value ∙ self.in_step)).left
      | in-1+in_ok-image-in-1 w ↦
          (second_offered self.first.items self.calls.items self.pieces.items _ _ w.in-1.is
          (fresh ∙ ap (λ (v : Vec ℕ Global). v.items) w.image-is ∙ w.in_ok-image-in-1.ensures.items ∙ w.deref-in-1.ensures.value ∙ self.in_sync)).left
      | in-2+in_ok-image-in-2 w ↦
          (third_offered self.first.items self.calls.items self.pieces.items _ _ w.in-2.is self.kept (subst (λ (l : List ℕ). AreInside (length l) (moment_of self).since) self.in_sync self.inside)
          (fresh ∙ ap (λ (v : Vec ℕ Global). v.items) w.image-is ∙ w.in_ok-image-in-2.ensures ∙ (λ i. inverted_from 0 (w.deref-in-2-2.ensures.value i) ((w.deref-in-2.ensures.value ∙ self.in_step) i)))).left
    ]
