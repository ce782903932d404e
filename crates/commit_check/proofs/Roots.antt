-- The root before the operations, and what it decides.
use Rattle.std.proofs.Common.{Some, None, ◌≡◌, ◌≢◌, ℕ, suc, arith, List, [], ◌∷◌, length, true, false, inl, inr, refl, sym, ◌∙◌, subst}
use Rattle.std.specs.Prelude.{◌==◌}
use Rattle.std.proofs.lemmas.Bool.{eqb-true}
use Rattle.at_car.specs.Blocks.{BlockMap}
use Rattle.at_event.specs.declared.refusal.Refusal.{Refusal}
use Rattle.mst_list.specs.declared.item.Item.{Item}
use Rattle.mst_list.specs.declared.op.Op.{Op}
use Rattle.mst_list.specs.declared.undoing.UndoFault.{UndoFault}
use Rattle.mst_list.specs.Edits.{AllAgree, IsGuarded, undone}
use Rattle.mst_list.specs.Faults.{IsCaused}
use Rattle.mst_node.specs.Trees.{root, IsView}
use Rattle.mst_view.specs.ViewFault.{IsViewFault}
use Rattle.mst_view.specs.declared.viewing.ViewFault.{ViewFault}
use Rattle.mst_law.specs.Laws.{IsStep}
use Rattle.commit_check.specs.declared.fault.CheckFault.{CheckFault}
use Rattle.commit_check.specs.Linking.{IsAtHand, IsRootBefore, IsStopBy}
use Rattle.commit_check.specs.Refusing.{undoing_told, view_told}
use Rattle.commit_check.specs.Step.{LeadsBy, StopsAt}

pub none_at_hand : (ops : List Op) (blocks : BlockMap) (later : List ℕ) → (length ops == 0) ≡ true → IsAtHand blocks later ops None
none_at_hand [] blocks later e = refl
none_at_hand (op ∷ ops) blocks later e = let none : suc (length ops) ≡ 0 = eqb-true (suc (length ops)) 0 e in absurd (omega (arith, none))

pub some_at_hand : (ops : List Op) (blocks : BlockMap) (later : List ℕ) (F : List Item) → (length ops == 0) ≡ false → IsView blocks later F → IsAtHand blocks later ops (Some F)
some_at_hand [] blocks later F e view = absurd (cc)
some_at_hand (op ∷ ops) blocks later F e view = view

pub no_view_stops : (ops : List Op) (blocks : BlockMap) (former later : List ℕ) (fault : ViewFault) → (length ops == 0) ≡ false → IsViewFault blocks later fault → IsStopBy ops blocks former later (view_told fault)
no_view_stops [] blocks former later fault e bad = absurd (cc)
no_view_stops (op ∷ ops) blocks former later (ViewFault.NoBlock link) e bad = inl bad
no_view_stops (op ∷ ops) blocks former later (ViewFault.BadNode link) e bad = inr bad
no_view_stops (op ∷ ops) blocks former later ViewFault.Memory e bad = tt

pub ruleset by_hand = (none_at_hand, some_at_hand, no_view_stops)

pub none_back : (ops : List Op) (blocks : BlockMap) (later : List ℕ) → IsAtHand blocks later ops None → IsRootBefore blocks later ops later
none_back [] blocks later held = refl
none_back (op ∷ ops) blocks later held = absurd held

pub some_back : (ops : List Op) (blocks : BlockMap) (later link : List ℕ) (F : List Item) → IsAtHand blocks later ops (Some F) → AllAgree F ops → IsGuarded F ops → link ≡ root (undone F ops) → IsRootBefore blocks later ops link
some_back [] blocks later link F held agrees guarded is = absurd (cc)
some_back (op ∷ ops) blocks later link F held agrees guarded is = record { list = F; step = record { is_view = held; agrees = agrees; guarded = guarded; leads_back = sym is } }

pub no_undoing_stops : (ops : List Op) (blocks : BlockMap) (former later : List ℕ) (F : List Item) (fault : UndoFault) → IsAtHand blocks later ops (Some F) → IsCaused F ops fault → IsStopBy ops blocks former later (undoing_told fault)
no_undoing_stops [] blocks former later F fault held caused = absurd (cc)
no_undoing_stops (op ∷ ops) blocks former later F (UndoFault.OtherOp i) held caused = (F, held, caused)
no_undoing_stops (op ∷ ops) blocks former later F (UndoFault.NotCovered i) held caused = (F, held, caused)
no_undoing_stops (op ∷ ops) blocks former later F UndoFault.Memory held caused = tt

pub led : (ops : List Op) (blocks : BlockMap) (former later before : List ℕ) → IsRootBefore blocks later ops before → before ≡ former → LeadsBy ops blocks former later
led [] blocks former later before back e = sym back ∙ e
led (op ∷ ops) blocks former later before back e =
    let P : List ℕ → Type 0 = λ r. IsStep blocks r later (op ∷ ops) back.list in
    (back.list, subst P e back.step)

stopped_by : (ops : List Op) (blocks : BlockMap) (former later before : List ℕ) → IsRootBefore blocks later ops before → before ≢ former → StopsAt ops blocks former later (Refusal.OtherData former before)
stopped_by [] blocks former later before back other = (refl, back, λ e. other (back ∙ e))
stopped_by (op ∷ ops) blocks former later before back other = (refl, back, other)

pub stopped : (ops : List Op) (blocks : BlockMap) (former later before : List ℕ) (fault : CheckFault) → IsRootBefore blocks later ops before → fault ≡ CheckFault.Refused (Refusal.OtherData former before) → before ≢ former → IsStopBy ops blocks former later fault
stopped ops blocks former later before fault back e other =
    let P : CheckFault → Type 0 = IsStopBy ops blocks former later in
    subst P (sym e) (stopped_by ops blocks former later before back other)
