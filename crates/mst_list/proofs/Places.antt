-- Where a key lies in a list.
use Rattle.std.proofs.Common.{◌≡◌, ℕ, List, [], ◌∷◌, ◌++◌, refl, sym, ap, Less, Equal, Greater, Option, Some, None}
use Rattle.mst_list.specs.declared.item.Item.{Item}
use Rattle.mst_list.specs.declared.item.Item.TheVariants.{Key, Hole}
use Rattle.at_cid.specs.Order.{key_cmp}
use Rattle.mst_list.specs.Edits.{by_order, before, after, value_at, with_value}
use Rattle.at_cid.proofs.Order.{cmp_same, cmp_exact, cmp_above}

-- each key of the list is below k
abbrev pub AllBelow : List ℕ → List Item → Type 0
AllBelow k [] = Unit {0}
AllBelow k (Key j v ∷ F) = (key_cmp j k ≡ Less) × AllBelow k F
AllBelow k (Hole l c ∷ F) = AllBelow k F

-- the list is empty or starts with a key above k
abbrev pub StartsAbove : List ℕ → List Item → Type 0
StartsAbove k [] = Unit {0}
StartsAbove k (Key j v ∷ F) = key_cmp k j ≡ Less
StartsAbove k (Hole l c ∷ F) = ⊥

-- a list is what stands before a key, the key, and what stands after it
pub rebuilt : (k : List ℕ) (F : List Item) → before k F ++ (with_value k (value_at k F) ++ after k F) ≡ F
rebuilt k [] = refl
rebuilt k (Hole l c ∷ F) = ap (λ G. Hole l c ∷ G) (rebuilt k F)
rebuilt k (Key j v ∷ F) =
    elim (key_cmp j k) as (λ o. key_cmp j k ≡ o → by_order o (Key j v ∷ before k F) [] [] ++ (with_value k (by_order o (value_at k F) (Some v) None) ++ by_order o (after k F) F (Key j v ∷ F)) ≡ Key j v ∷ F) [
      | Less ↦ λ e. ap (λ G. Key j v ∷ G) (rebuilt k F)
      | Equal ↦ λ e. ap (λ i. Key i v ∷ F) (sym (cmp_exact j k e))
      | Greater ↦ λ e. refl
    ] refl

pub below_before : (k : List ℕ) (F : List Item) → AllBelow k (before k F)
below_before k [] = tt
below_before k (Hole l c ∷ F) = below_before k F
below_before k (Key j v ∷ F) =
    elim (key_cmp j k) as (λ o. key_cmp j k ≡ o → AllBelow k (by_order o (Key j v ∷ before k F) [] [])) [
      | Less ↦ λ e. (e, below_before k F)
      | Equal ↦ λ e. tt
      | Greater ↦ λ e. tt
    ] refl

-- a list that is put together round k has its parts
pub before_placed : (k : List ℕ) (o : Option (List ℕ)) (A B : List Item) → AllBelow k A → StartsAbove k B → before k (A ++ (with_value k o ++ B)) ≡ A
before_placed k None [] [] low high = refl
before_placed k None [] (Key j v ∷ B) low high = rw (cmp_above k j high) refl
before_placed k None [] (Hole l c ∷ B) low high = absurd high
before_placed k (Some v) [] B low high = rw cmp_same refl
before_placed k o (Key j w ∷ A) B low high = rw low.0 (ap (λ G. Key j w ∷ G) (before_placed k o A B low.1 high))
before_placed k o (Hole l c ∷ A) B low high = ap (λ G. Hole l c ∷ G) (before_placed k o A B low high)

pub after_placed : (k : List ℕ) (o : Option (List ℕ)) (A B : List Item) → AllBelow k A → StartsAbove k B → after k (A ++ (with_value k o ++ B)) ≡ B
after_placed k None [] [] low high = refl
after_placed k None [] (Key j v ∷ B) low high = rw (cmp_above k j high) refl
after_placed k None [] (Hole l c ∷ B) low high = absurd high
after_placed k (Some v) [] B low high = rw cmp_same refl
after_placed k o (Key j w ∷ A) B low high = rw low.0 (after_placed k o A B low.1 high)
after_placed k o (Hole l c ∷ A) B low high = after_placed k o A B low high

pub value_placed : (k : List ℕ) (o : Option (List ℕ)) (A B : List Item) → AllBelow k A → StartsAbove k B → value_at k (A ++ (with_value k o ++ B)) ≡ o
value_placed k None [] [] low high = refl
value_placed k None [] (Key j v ∷ B) low high = rw (cmp_above k j high) refl
value_placed k None [] (Hole l c ∷ B) low high = absurd high
value_placed k (Some v) [] B low high = rw cmp_same refl
value_placed k o (Key j w ∷ A) B low high = rw low.0 (value_placed k o A B low.1 high)
value_placed k o (Hole l c ∷ A) B low high = value_placed k o A B low high
