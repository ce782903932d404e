-- The first operation with a fault.
use Rattle.std.proofs.Common.{◌≡◌, ◌≢◌, ℕ, zero, suc, ◌<◌, List, [], ◌∷◌, length, take, get_or, Bool, true, false, refl, subst, Option, Some, None, arith, inl, inr, ◌↔◌, IsTrue}
use Rattle.mst_list.specs.declared.item.Item.{Item}
use Rattle.mst_list.specs.declared.op.Op.{Op}
use Rattle.mst_list.specs.Edits.{value_at, IsClear, GuardedBy, IsGuarded, AllAgree}
use Rattle.mst_list.specs.Faults.{clear_behind, IsFine, AllFine, IsFirst, IsBesideHole}
use Rattle.mst_list.proofs.Judged.{is_clear, is_beside}

pub first_at : (P : List Item → Op → Type 0) (F : List Item) (ops : List Op) (i : ℕ) (op : Op) → AllFine F (take i ops) → i < length ops → op ≡ get_or ops i op → P F op → IsFirst P F ops i
first_at P F [] i op fine low is p = absurd (omega arith)
first_at P F (o ∷ ops) zero op fine low is p = let Q : Op → Type 0 = λ x. P F x in subst Q is p
first_at P F (o ∷ ops) (suc i) op fine low is p = (fine.0, first_at P F ops i op fine.1 (omega arith) is p)

pub fine_more : (F : List Item) (ops : List Op) (i : ℕ) (op : Op) → AllFine F (take i ops) → i < length ops → op ≡ get_or ops i op → IsFine F op → AllFine F (take (suc i) ops)
fine_more F [] i op fine low is p = tt
fine_more F (o ∷ ops) zero op fine low is p = (let Q : Op → Type 0 = λ x. IsFine F x in subst Q is p, tt)
fine_more F (o ∷ ops) (suc i) op fine low is p = (fine.0, fine_more F ops i op fine.1 (omega arith) is p)

pub all_agree_of : (F : List Item) (ops : List Op) → AllFine F ops → AllAgree F ops
all_agree_of F [] h = tt
all_agree_of F (op ∷ ops) h = (h.0.0, all_agree_of F ops h.1)

pub guarded_of : (F : List Item) (ops : List Op) → AllFine F ops → IsGuarded F ops
guarded_of F [] h = tt
guarded_of F (op ∷ ops) h = (h.0.1, guarded_of F ops h.1)

pub all_fine_of : (F : List Item) (ops : List Op) → AllAgree F ops → IsGuarded F ops → AllFine F ops
all_fine_of F [] a g = tt
all_fine_of F (op ∷ ops) a g = ((a.0, g.0), all_fine_of F ops a.1 g.1)

-- the test and the fact
pub clear_iff : (k : List ℕ) (F : List Item) → IsTrue (clear_behind false k F) ↔ IsClear k F
clear_iff k F = go (clear_behind false k F) refl
  where
    never : IsBesideHole k F → IsClear k F → ⊥
    never (inl h) c = c.no_hole_before h
    never (inr h) c = c.no_hole_after h

    go : (b : Bool) → clear_behind false k F ≡ b → IsTrue b ↔ IsClear k F
    go true e = (λ h. is_clear k F e, λ h. refl)
    go false e = (λ h. absurd (cc), λ h. absurd (never (is_beside k F e) h))

pub guard_create : (k : List ℕ) (was now : Option (List ℕ)) (F : List Item) → was ≡ None → (IsTrue (clear_behind false k F) ↔ GuardedBy k was now F)
guard_create k None now F e = clear_iff k F
guard_create k (Some v) now F e = absurd (cc)

pub guard_delete : (k : List ℕ) (was now : Option (List ℕ)) (F : List Item) → was ≢ None → now ≡ None → value_at k F ≡ None → (IsTrue (clear_behind false k F) ↔ GuardedBy k was now F)
guard_delete k None now F w n at = absurd (w refl)
guard_delete k (Some v) (Some x) F w n at = absurd (cc)
guard_delete k (Some v) None F w n at = let p = clear_iff k F in (λ h e. p.0 h, λ g. p.1 (g at))
