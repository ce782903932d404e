-- What playing and undoing answer is one.
use Rattle.std.proofs.Common.{◌≡◌, ℕ, zero, suc, List, [], ◌∷◌, refl, sym, ap, ◌∙◌, Ok, Err}
use Rattle.mst_list.specs.declared.item.Item.{Item}
use Rattle.mst_list.specs.declared.op.Op.{Op}
use Rattle.mst_list.specs.declared.undoing.UndoFault.{UndoFault}
use Rattle.mst_list.specs.declared.playing.PlayFault.{PlayFault}
use Rattle.mst_list.specs.Edits.{put, Plays, undone}
use Rattle.mst_list.specs.Faults.{Disagrees, IsUncovered, AllFine, IsCaused, UndoesExactly, IsClash, IsPlayFault, PlaysExactly}
use Rattle.mst_list.proofs.Exact.{fine_agrees, fine_covered, other_covered, none_first, first_once}
use Rattle.mst_list.proofs.Firsts.{all_fine_of}

pub undone_exact : (F G : List Item) (ops : List Op) → AllFine F ops → G ≡ undone F ops → UndoesExactly F ops (Ok G)
undone_exact F G ops fine e (Ok H) is = ap Ok (is.2 ∙ sym e)
undone_exact F G ops fine e (Err (UndoFault.OtherOp i)) is = absurd (none_first Disagrees fine_agrees F ops i fine is)
undone_exact F G ops fine e (Err (UndoFault.NotCovered i)) is = absurd (none_first IsUncovered fine_covered F ops i fine is)
undone_exact F G ops fine e (Err UndoFault.Memory) is = absurd is

pub fault_exact : (F : List Item) (ops : List Op) (fault : UndoFault) → IsCaused F ops fault → UndoesExactly F ops (Err fault)
fault_exact F ops UndoFault.Memory cause answer is = tt
fault_exact F ops (UndoFault.OtherOp i) cause (Ok H) is = absurd (none_first Disagrees fine_agrees F ops i (all_fine_of F ops is.0 is.1) cause)
fault_exact F ops (UndoFault.OtherOp i) cause (Err (UndoFault.OtherOp j)) is =
    let b = first_once Disagrees Disagrees fine_agrees fine_agrees F ops i j cause is in ap (λ n. Err (UndoFault.OtherOp n)) (sym b.place)
fault_exact F ops (UndoFault.OtherOp i) cause (Err (UndoFault.NotCovered j)) is =
    let b = first_once Disagrees IsUncovered fine_agrees fine_covered F ops i j cause is in absurd (other_covered F b.op b.one b.other)
fault_exact F ops (UndoFault.OtherOp i) cause (Err UndoFault.Memory) is = absurd is
fault_exact F ops (UndoFault.NotCovered i) cause (Ok H) is = absurd (none_first IsUncovered fine_covered F ops i (all_fine_of F ops is.0 is.1) cause)
fault_exact F ops (UndoFault.NotCovered i) cause (Err (UndoFault.OtherOp j)) is =
    let b = first_once IsUncovered Disagrees fine_covered fine_agrees F ops i j cause is in absurd (other_covered F b.op b.other b.one)
fault_exact F ops (UndoFault.NotCovered i) cause (Err (UndoFault.NotCovered j)) is =
    let b = first_once IsUncovered IsUncovered fine_covered fine_covered F ops i j cause is in ap (λ n. Err (UndoFault.NotCovered n)) (sym b.place)
fault_exact F ops (UndoFault.NotCovered i) cause (Err UndoFault.Memory) is = absurd is

plays_once : (s t u : List Item) (ops : List Op) → Plays s ops t → Plays s ops u → t ≡ u
plays_once s t u [] p q = p ∙ sym q
plays_once s t u (op ∷ ops) p q = plays_once (put op.key op.now s) t u ops p.1 q.1

plays_no_clash : (s t : List Item) (ops : List Op) (i : ℕ) → Plays s ops t → IsClash s ops i → ⊥
plays_no_clash s t [] i p c = c
plays_no_clash s t (op ∷ ops) zero p c = c p.0
plays_no_clash s t (op ∷ ops) (suc i) p c = plays_no_clash (put op.key op.now s) t ops i p.1 c.1

clash_once : (s : List Item) (ops : List Op) (i j : ℕ) → IsClash s ops i → IsClash s ops j → i ≡ j
clash_once s [] i j c d = absurd c
clash_once s (op ∷ ops) zero zero c d = refl
clash_once s (op ∷ ops) zero (suc j) c d = absurd (c d.0)
clash_once s (op ∷ ops) (suc i) zero c d = absurd (d c.0)
clash_once s (op ∷ ops) (suc i) (suc j) c d = ap suc (clash_once (put op.key op.now s) ops i j c.1 d.1)

pub played_exact : (s t : List Item) (ops : List Op) → Plays s ops t → PlaysExactly s ops (Ok t)
played_exact s t ops p (Ok u) is = ap Ok (plays_once s u t ops is p)
played_exact s t ops p (Err (PlayFault.Clash i)) is = absurd (plays_no_clash s t ops i p is)
played_exact s t ops p (Err PlayFault.Memory) is = absurd is

pub clash_exact : (s : List Item) (ops : List Op) (fault : PlayFault) → IsPlayFault s ops fault → PlaysExactly s ops (Err fault)
clash_exact s ops PlayFault.Memory cause answer is = tt
clash_exact s ops (PlayFault.Clash i) cause (Ok u) is = absurd (plays_no_clash s u ops i is cause)
clash_exact s ops (PlayFault.Clash i) cause (Err (PlayFault.Clash j)) is = ap (λ n. Err (PlayFault.Clash n)) (clash_once s ops j i is cause)
clash_exact s ops (PlayFault.Clash i) cause (Err PlayFault.Memory) is = absurd is
