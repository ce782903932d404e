-- Operations lead from root to root, or a refusal stops them.
use Rattle.std.proofs.Common.{◌≡◌, ◌≢◌, ℕ, zero, suc, List, [], ◌∷◌, Bool, true, false, Option, Some, None, ◌⊎◌, inl, inr, refl, sym, ap, ◌∙◌}
use Rattle.std.specs.FinMap as map
use Rattle.std.specs.Str.{bytes_eq}
use Rattle.std.proofs.lemmas.Bool.{false≢true}
use Rattle.std.proofs.lemmas.Slice.Eq.{bytes_eq-Decides}
use Rattle.at_car.specs.Blocks.{BlockMap}
use Rattle.at_cid.specs.Link.{IsNodeLink}
use Rattle.at_event.specs.declared.refusal.Refusal.{Refusal}
use Rattle.mst_list.specs.declared.item.Item.{Item}
use Rattle.mst_list.specs.declared.op.Op.{Op}
use Rattle.mst_list.specs.Edits.{undone, value_at}
use Rattle.mst_list.specs.Faults.{AllFine, Disagrees, IsFine, IsFirst, IsUncovered, clear_behind}
use Rattle.mst_list.proofs.Firsts.{all_agree_of, guarded_of}
use Rattle.mst_list.proofs.Judged.{beside, fine_absent, fine_visible, hidden, other_absent, other_value}
use Rattle.mst_node.specs.Covers.{AreUnderNodeLinks}
use Rattle.mst_node.specs.Trees.{root, IsView}
use Rattle.mst_view.specs.ViewFault.{IsAtFault}
use Rattle.mst_view.proofs.TreeAt.{view_or_fault}
use Rattle.commit_check.specs.Step.{LeadsBy, StopsAt}

same_or : (a b : List ℕ) → (a ≡ b) ⊎ (a ≢ b)
same_or a b = go (bytes_eq a b) refl
  where
    go : (t : Bool) → bytes_eq a b ≡ t → (a ≡ b) ⊎ (a ≢ b)
    go true e = inl ((bytes_eq-Decides a b).0 e)
    go false e = inr (λ same. false≢true (sym e ∙ (bytes_eq-Decides a b).1 same))

abbrev IsJudged : List Item → Op → Type 0
IsJudged F op = IsFine F op ⊎ (Disagrees F op ⊎ IsUncovered F op)

judged : (F : List Item) (op : Op) → IsJudged F op
judged F op = go (value_at op.key F) op.now op.was (clear_behind false op.key F) refl refl refl refl
  where
    alike : (v n : List ℕ) (was : Option (List ℕ)) (clear : Bool) → value_at op.key F ≡ Some v → op.now ≡ Some n → op.was ≡ was → clear_behind false op.key F ≡ clear → v ≡ n → IsJudged F op
    alike v n (Some u) clear at now was c same = inl (fine_visible F op v n at now same (λ e. absurd (cc)))
    alike v n None true at now was c same = inl (fine_visible F op v n at now same (λ e. c))
    alike v n None false at now was c same = inr (inr (beside F op (at ∙ (ap Some same ∙ sym now)) was c))

    values : (v n : List ℕ) (was : Option (List ℕ)) (clear : Bool) → value_at op.key F ≡ Some v → op.now ≡ Some n → op.was ≡ was → clear_behind false op.key F ≡ clear → (v ≡ n) ⊎ (v ≢ n) → IsJudged F op
    values v n was clear at now is c (inl same) = alike v n was clear at now is c same
    values v n was clear at now is c (inr differ) = inr (inl (other_value F op v at (λ e. differ (let one : v ≡ n = cc in one))))

    go : (v now was : Option (List ℕ)) (clear : Bool) → value_at op.key F ≡ v → op.now ≡ now → op.was ≡ was → clear_behind false op.key F ≡ clear → IsJudged F op
    go (Some v) (Some n) was clear at now is c = values v n was clear at now is c (same_or v n)
    go (Some v) None was clear at now is c = inr (inl (other_value F op v at (λ e. absurd (cc))))
    go None (Some n) was true at now is c = inr (inl (other_absent F op at (λ e. absurd (cc)) c))
    go None (Some n) was false at now is c = inr (inr (hidden F op at c))
    go None None was true at now is c = inl (fine_absent F op at now c)
    go None None was false at now is c = inr (inr (hidden F op at c))

abbrev AreJudged : List Item → List Op → Type 0
AreJudged F ops = AllFine F ops ⊎ (((i : ℕ) × IsFirst Disagrees F ops i) ⊎ ((i : ℕ) × IsFirst IsUncovered F ops i))

all_judged : (F : List Item) (ops : List Op) → AreJudged F ops
all_judged F [] = inl tt
all_judged F (op ∷ ops) = go (judged F op) (all_judged F ops)
  where
    go : IsJudged F op → AreJudged F ops → AreJudged F (op ∷ ops)
    go (inl fine) (inl all) = inl (fine, all)
    go (inl fine) (inr (inl first)) = inr (inl (suc first.0, (fine, first.1)))
    go (inl fine) (inr (inr first)) = inr (inr (suc first.0, (fine, first.1)))
    go (inr (inl other)) rest = inr (inl (zero, other))
    go (inr (inr uncovered)) rest = inr (inr (zero, uncovered))

abbrev IsLedOrStopped : List Op → BlockMap → List ℕ → List ℕ → Type 0
IsLedOrStopped ops blocks former later = LeadsBy ops blocks former later ⊎ ((refusal : Refusal) × StopsAt ops blocks former later refusal)

some_decided : (op : Op) (ops : List Op) (blocks : BlockMap) (former later : List ℕ) → AreUnderNodeLinks blocks → IsNodeLink later → IsLedOrStopped (op ∷ ops) blocks former later
some_decided op ops blocks former later under kind = at_root (map.get blocks later) refl
  where
    rooted : (F : List Item) → IsView blocks later F → AllFine F (op ∷ ops) → (root (undone F (op ∷ ops)) ≡ former) ⊎ (root (undone F (op ∷ ops)) ≢ former) → IsLedOrStopped (op ∷ ops) blocks former later
    rooted F view fine (inl same) = inl (F, record { is_view = view; agrees = all_agree_of F (op ∷ ops) fine; guarded = guarded_of F (op ∷ ops) fine; leads_back = same })
    rooted F view fine (inr other) =
        inr (
          Refusal.OtherData former (root (undone F (op ∷ ops))),
          (refl, record { list = F; step = record { is_view = view; agrees = all_agree_of F (op ∷ ops) fine; guarded = guarded_of F (op ∷ ops) fine; leads_back = refl } }, other),
        )

    weighed : (F : List Item) → IsView blocks later F → AreJudged F (op ∷ ops) → IsLedOrStopped (op ∷ ops) blocks former later
    weighed F view (inl fine) = rooted F view fine (same_or (root (undone F (op ∷ ops))) former)
    weighed F view (inr (inl first)) = inr (Refusal.OtherOp first.0, (F, view, first.1))
    weighed F view (inr (inr first)) = inr (Refusal.NotCovered first.0, (F, view, first.1))

    viewed : ((F : List Item) × IsView blocks later F) ⊎ ((c : List ℕ) × IsAtFault blocks later c) → IsLedOrStopped (op ∷ ops) blocks former later
    viewed (inl view) = weighed view.0 view.1 (all_judged view.0 (op ∷ ops))
    viewed (inr bad) = inr (Refusal.BadNode bad.0, inr bad.1)

    at_root : (o : Option (List ℕ)) → map.get blocks later ≡ o → IsLedOrStopped (op ∷ ops) blocks former later
    at_root None gone = inr (Refusal.BadNode later, inl (refl, gone))
    at_root (Some block) at = viewed (view_or_fault blocks later block under kind at)

pub led_or_stopped : (ops : List Op) (blocks : BlockMap) (former later : List ℕ) → AreUnderNodeLinks blocks → IsNodeLink later → IsLedOrStopped ops blocks former later
led_or_stopped [] blocks former later under kind = go (same_or later former)
  where
    go : (later ≡ former) ⊎ (later ≢ former) → IsLedOrStopped [] blocks former later
    go (inl same) = inl same
    go (inr other) = inr (Refusal.OtherData former later, (refl, refl, other))
led_or_stopped (op ∷ ops) blocks former later under kind = some_decided op ops blocks former later under kind
