-- The first fault is one.
use Rattle.std.proofs.Common.{◌≡◌, ℕ, zero, suc, List, [], ◌∷◌, refl, ap, Option, Some, None, ◌⊎◌, inl, inr}
use Rattle.mst_list.specs.declared.item.Item.{Item}
use Rattle.mst_list.specs.declared.op.Op.{Op}
use Rattle.mst_list.specs.Edits.{value_at, IsClear, GuardedBy}
use Rattle.mst_list.specs.Faults.{IsHidden, Disagrees, IsBesideHole, IsUncovered, IsFine, AllFine, IsFirst}

pub fine_agrees : (F : List Item) (op : Op) → IsFine F op → Disagrees F op → ⊥
fine_agrees F op fine d = d.0 fine.0

pub fine_covered : (F : List Item) (op : Op) → IsFine F op → IsUncovered F op → ⊥
fine_covered F op fine u = go op.was op.now fine.0 fine.1 refl u.1
  where
    beside : IsClear op.key F → IsBesideHole op.key F → ⊥
    beside c (inl h) = c.no_hole_before h
    beside c (inr h) = c.no_hole_after h

    go : (was now : Option (List ℕ)) → value_at op.key F ≡ now → GuardedBy op.key was now F → op.was ≡ was → IsHidden op.key F ⊎ ((op.was ≡ None) × IsBesideHole op.key F) → ⊥
    go None now at g e (inl h) = g.no_hole_before h.1
    go None now at g e (inr h) = beside g h.1
    go (Some v) None at g e (inl h) = (g h.0).no_hole_before h.1
    go (Some v) (Some w) at g e (inl h) = g h.0
    go (Some v) now at g e (inr h) = let x = h.0 in absurd (cc)

pub other_covered : (F : List Item) (op : Op) → Disagrees F op → IsUncovered F op → ⊥
other_covered F op d u = u.0 d

-- where all are fine there is no first fault
pub none_first : (P : List Item → Op → Type 0) → ((F : List Item) (op : Op) → IsFine F op → P F op → ⊥) → (F : List Item) (ops : List Op) (i : ℕ) → AllFine F ops → IsFirst P F ops i → ⊥
none_first P no_fine F [] i fine first = first
none_first P no_fine F (op ∷ ops) zero fine first = no_fine F op fine.0 first
none_first P no_fine F (op ∷ ops) (suc i) fine first = none_first P no_fine F ops i fine.1 first.1

-- two first faults are at one place, of one operation
pub record IsBoth (P Q : List Item → Op → Type 0) (F : List Item) (i j : ℕ) : Type 0 where
  pub op : Op
  pub place : i ≡ j
  pub one : P F op
  pub other : Q F op

pub first_once : (P Q : List Item → Op → Type 0) → ((F : List Item) (op : Op) → IsFine F op → P F op → ⊥) → ((F : List Item) (op : Op) → IsFine F op → Q F op → ⊥)
    → (F : List Item) (ops : List Op) (i j : ℕ) → IsFirst P F ops i → IsFirst Q F ops j → IsBoth P Q F i j
first_once P Q p q F [] i j f g = absurd f
first_once P Q p q F (op ∷ ops) zero zero f g = record { op = op; place = refl; one = f; other = g }
first_once P Q p q F (op ∷ ops) zero (suc j) f g = absurd (p F op g.0 f)
first_once P Q p q F (op ∷ ops) (suc i) zero f g = absurd (q F op f.0 g)
first_once P Q p q F (op ∷ ops) (suc i) (suc j) f g =
    let r = first_once P Q p q F ops i j f.1 g.1 in record { op = r.op; place = ap suc r.place; one = r.one; other = r.other }
