-- Verdicts on operations.
use Rattle.std.proofs.Common.{◌≡◌, ◌≢◌, ℕ, List, [], ◌∷◌, Bool, true, false, not, ◌&&◌, refl, sym, ap, ◌∙◌, Option, Some, None, ◌⊎◌, inl, inr, Less, Equal, Greater}
use Rattle.mst_list.specs.declared.item.Item.{Item}
use Rattle.mst_list.specs.declared.item.Item.TheVariants.{Key, Hole}
use Rattle.mst_list.specs.declared.op.Op.{Op}
use Rattle.at_cid.specs.Order.{key_cmp}
use Rattle.mst_list.specs.Edits.{by_order, before, after, value_at, EndsInHole, StartsWithHole, IsClear, GuardedBy}
use Rattle.mst_list.specs.Faults.{starts_with_hole, clear_behind, IsHidden, Disagrees, IsBesideHole, IsUncovered, IsFine}

-- a hole stands at the end, `behind` telling of the empty list
abbrev pub Ends : Bool → List Item → Type 0
Ends true [] = Unit {0}
Ends false [] = ⊥
Ends b (x ∷ F) = EndsInHole (x ∷ F)

ends_hole : (l : ℕ) (c : List ℕ) (A : List Item) → EndsInHole (Hole l c ∷ A) → Ends true A
ends_hole l c [] h = tt
ends_hole l c (x ∷ A) h = h

hole_ends : (l : ℕ) (c : List ℕ) (A : List Item) → Ends true A → EndsInHole (Hole l c ∷ A)
hole_ends l c [] h = tt
hole_ends l c (x ∷ A) h = h

ends_key : (k v : List ℕ) (A : List Item) → EndsInHole (Key k v ∷ A) → Ends false A
ends_key k v [] h = h
ends_key k v (x ∷ A) h = h

key_ends : (k v : List ℕ) (A : List Item) → Ends false A → EndsInHole (Key k v ∷ A)
key_ends k v [] h = h
key_ends k v (x ∷ A) h = h

ends_false : (A : List Item) → EndsInHole A → Ends false A
ends_false [] h = h
ends_false (x ∷ A) h = h

false_ends : (A : List Item) → Ends false A → EndsInHole A
false_ends [] h = h
false_ends (x ∷ A) h = h

not_behind : (b : Bool) → not b ≡ true → Ends b [] → ⊥
not_behind true e h = absurd (cc)
not_behind false e h = h

is_behind : (b : Bool) → not b ≡ false → Ends b []
is_behind true e = tt
is_behind false e = absurd (cc)

no_start : (F : List Item) → not (starts_with_hole F) ≡ true → StartsWithHole F → ⊥
no_start [] e h = h
no_start (Key k v ∷ F) e h = h
no_start (Hole l c ∷ F) e h = absurd (cc)

is_start : (F : List Item) → not (starts_with_hole F) ≡ false → StartsWithHole F
is_start [] e = absurd (cc)
is_start (Key k v ∷ F) e = absurd (cc)
is_start (Hole l c ∷ F) e = tt

both_true : (a b : Bool) → (a && b) ≡ true → (a ≡ true) × (b ≡ true)
both_true true b e = (refl, e)
both_true false b e = absurd (cc)

one_false : (a b : Bool) → (a && b) ≡ false → (a ≡ false) ⊎ (b ≡ false)
one_false true b e = inr e
one_false false b e = inl refl

-- the test says that no hole is beside the key
above_key : (k : List ℕ) (j v : List ℕ) (F : List Item) → StartsWithHole (Key j v ∷ F) → ⊥
above_key k j v F h = h

pub clear_true : (b : Bool) (k : List ℕ) (F : List Item) → clear_behind b k F ≡ true → (Ends b (before k F) → ⊥) × (StartsWithHole (after k F) → ⊥)
clear_true b k [] e = (not_behind b e, λ h. h)
clear_true b k (Hole l c ∷ F) e = let p = clear_true true k F e in (λ h. p.0 (ends_hole l c (before k F) h), p.1)
clear_true b k (Key j v ∷ F) e =
    elim (key_cmp j k) as (λ o. by_order o (clear_behind false k F) (not b && not (starts_with_hole F)) (not b) ≡ true
    → (Ends b (by_order o (Key j v ∷ before k F) [] []) → ⊥) × (StartsWithHole (by_order o (after k F) F (Key j v ∷ F)) → ⊥)) [
      | Less ↦ λ d. let p = clear_true false k F d in (λ h. p.0 (ends_key j v (before k F) h), p.1)
      | Equal ↦ λ d. let q = both_true (not b) (not (starts_with_hole F)) d in (not_behind b q.0, no_start F q.1)
      | Greater ↦ λ d. (not_behind b d, λ h. h)
    ] e

-- the test says that a hole is beside the key
pub clear_false : (b : Bool) (k : List ℕ) (F : List Item) → clear_behind b k F ≡ false → Ends b (before k F) ⊎ ((value_at k F ≢ None) × StartsWithHole (after k F))
clear_false b k [] e = inl (is_behind b e)
clear_false b k (Hole l c ∷ F) e = go (clear_false true k F e)
  where
    go : Ends true (before k F) ⊎ ((value_at k F ≢ None) × StartsWithHole (after k F)) → EndsInHole (Hole l c ∷ before k F) ⊎ ((value_at k F ≢ None) × StartsWithHole (after k F))
    go (inl h) = inl (hole_ends l c (before k F) h)
    go (inr h) = inr h
clear_false b k (Key j v ∷ F) e =
    elim (key_cmp j k) as (λ o. by_order o (clear_behind false k F) (not b && not (starts_with_hole F)) (not b) ≡ false
    → Ends b (by_order o (Key j v ∷ before k F) [] []) ⊎ ((by_order o (value_at k F) (Some v) None ≢ None) × StartsWithHole (by_order o (after k F) F (Key j v ∷ F)))) [
      | Less ↦ λ d. less (clear_false false k F d)
      | Equal ↦ λ d. same (one_false (not b) (not (starts_with_hole F)) d)
      | Greater ↦ λ d. inl (is_behind b d)
    ] e
  where
    less : Ends false (before k F) ⊎ ((value_at k F ≢ None) × StartsWithHole (after k F)) → Ends b (Key j v ∷ before k F) ⊎ ((value_at k F ≢ None) × StartsWithHole (after k F))
    less (inl h) = inl (key_ends j v (before k F) h)
    less (inr h) = inr h

    same : (not b ≡ false) ⊎ (not (starts_with_hole F) ≡ false) → Ends b [] ⊎ ((Some v ≢ None) × StartsWithHole F)
    same (inl h) = inl (is_behind b h)
    same (inr h) = inr (λ x. absurd (cc), is_start F h)

pub is_clear : (k : List ℕ) (F : List Item) → clear_behind false k F ≡ true → IsClear k F
is_clear k F e = let p = clear_true false k F e in record { no_hole_before = λ h. p.0 (ends_false (before k F) h); no_hole_after = p.1 }

pub is_beside : (k : List ℕ) (F : List Item) → clear_behind false k F ≡ false → IsBesideHole k F
is_beside k F e = go (clear_false false k F e)
  where
    go : Ends false (before k F) ⊎ ((value_at k F ≢ None) × StartsWithHole (after k F)) → IsBesideHole k F
    go (inl h) = inl (false_ends (before k F) h)
    go (inr h) = inr h.1

pub is_hidden : (k : List ℕ) (F : List Item) → value_at k F ≡ None → clear_behind false k F ≡ false → IsHidden k F
is_hidden k F n e = go (clear_false false k F e)
  where
    go : Ends false (before k F) ⊎ ((value_at k F ≢ None) × StartsWithHole (after k F)) → IsHidden k F
    go (inl h) = (n, false_ends (before k F) h)
    go (inr h) = absurd (h.0 n)

-- the verdicts
pub fine_visible : (F : List Item) (op : Op) (v w : List ℕ) → value_at op.key F ≡ Some v → op.now ≡ Some w → v ≡ w → (op.was ≡ None → clear_behind false op.key F ≡ true) → IsFine F op
fine_visible F op v w at now same clear = (at ∙ ap Some same ∙ sym now, guard op.was op.now refl now)
  where
    guard : (was n : Option (List ℕ)) → op.was ≡ was → n ≡ Some w → GuardedBy op.key was n F
    guard None n e d = is_clear op.key F (clear e)
    guard (Some u) (Some x) e d = λ h. absurd (cc)
    guard (Some u) None e d = absurd (cc)

pub fine_absent : (F : List Item) (op : Op) → value_at op.key F ≡ None → op.now ≡ None → clear_behind false op.key F ≡ true → IsFine F op
fine_absent F op at now clear = (at ∙ sym now, guard op.was op.now now)
  where
    guard : (was n : Option (List ℕ)) → n ≡ None → GuardedBy op.key was n F
    guard None n d = is_clear op.key F clear
    guard (Some u) (Some x) d = absurd (cc)
    guard (Some u) None d = λ h. is_clear op.key F clear

pub other_value : (F : List Item) (op : Op) (v : List ℕ) → value_at op.key F ≡ Some v → op.now ≢ Some v → Disagrees F op
other_value F op v at now = (λ e. now (sym e ∙ at), λ h. let n = h.0 in absurd (cc))

pub other_absent : (F : List Item) (op : Op) → value_at op.key F ≡ None → op.now ≢ None → clear_behind false op.key F ≡ true → Disagrees F op
other_absent F op at now clear = (λ e. now (sym e ∙ at), λ h. (is_clear op.key F clear).no_hole_before h.1)

pub hidden : (F : List Item) (op : Op) → value_at op.key F ≡ None → clear_behind false op.key F ≡ false → IsUncovered F op
hidden F op at clear = let h = is_hidden op.key F at clear in (λ d. d.1 h, inl h)

pub beside : (F : List Item) (op : Op) → value_at op.key F ≡ op.now → op.was ≡ None → clear_behind false op.key F ≡ false → IsUncovered F op
beside F op at was clear = (λ d. d.0 at, inr (was, is_beside op.key F clear))
