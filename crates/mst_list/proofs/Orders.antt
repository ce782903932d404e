-- What an exchange of two neighbours leaves, each other order leaves.
use Rattle.std.proofs.Common.{ℕ, zero, suc, ◌<◌, List, [], ◌∷◌, ◌++◌, length, arith}
use Rattle.std.specs.Prelude.{slice_index_or, slice_set, IsPermutation}
use Rattle.std.specs.List.{swap}
use Rattle.std.proofs.lemmas.List.Sorted.{IsPermutation-keeps}

module _ {X : Type 0} where
  abbrev Exchanges : (List X → Type 0) → Type 0
  Exchanges P = (A : List X) (x y : X) (B : List X) → P (A ++ (x ∷ (y ∷ B))) → P (A ++ (y ∷ (x ∷ B)))

  front_exchanged : (P : List X → Type 0) → Exchanges P → (x : X) (l : List X) (j : ℕ) (d : X) → j < length l → P (x ∷ l) → P (slice_index_or l j d ∷ slice_set l j x)
  front_exchanged P step x [] j d low h = absurd (omega arith)
  front_exchanged P step x (y ∷ l) zero d low h = step [] x y l h
  front_exchanged P step x (y ∷ l) (suc j) d low h = step [] y (slice_index_or l j d) (slice_set l j x) (front_exchanged (λ m. P (y ∷ m)) (λ A. step (y ∷ A)) x l j d (omega arith) (step [] x y l h))

  exchanged : (P : List X → Type 0) → Exchanges P → (l : List X) (i j : ℕ) (d : X) → i < length l → j < length l → P l → P (slice_set (slice_set l i (slice_index_or l j d)) j (slice_index_or l i d))
  exchanged P step [] i j d p q h = absurd (omega arith)
  exchanged P step (x ∷ l) zero zero d p q h = h
  exchanged P step (x ∷ l) zero (suc j) d p q h = front_exchanged P step x l j d (omega arith) h
  exchanged P step (x ∷ l) (suc i) zero d p q h = front_exchanged P step x l i d (omega arith) h
  exchanged P step (x ∷ l) (suc i) (suc j) d p q h = exchanged (λ m. P (x ∷ m)) (λ A. step (x ∷ A)) l i j d (omega arith) (omega arith) h

  swapped : (P : List X → Type 0) → Exchanges P → (l : List X) (i j : ℕ) → i < length l → j < length l → P l → P (swap l i j)
  swapped P step [] i j p q h = h
  swapped P step (d ∷ l) i j p q h = exchanged P step (d ∷ l) i j d p q h

  pub order_keeps : (P : List X → Type 0) → Exchanges P → (xs ys : List X) → IsPermutation xs ys → P xs → P ys
  order_keeps P step xs ys same h = IsPermutation-keeps xs P h (λ l i j p q k. swapped P step l i j p q k) ys same
