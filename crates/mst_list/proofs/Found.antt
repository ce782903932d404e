-- Keys of maps, found by halving.
use Rattle.std.proofs.Common.{◌≡◌, ℕ, zero, suc, ◌<◌, ◌≤◌, List, [], ◌∷◌, length, get_or, refl, sym, ap, ◌∙◌, subst, arith, Ordering, Less, Equal, Greater, Result, Ok, Err}
use Rattle.std.specs.Ordering.{ordering_index}
use Rattle.std.specs.List.{HoldsAt}
use Rattle.std.specs.List.Sorted.{IsBinarySearchResult, IsNonDecreasingBy, IsPartitionPoint, IsSearchInRange}
use Rattle.at_cid.specs.Order.{key_cmp}
use Rattle.at_cid.proofs.Order.{cmp_exact, cmp_trans}
use Rattle.mst_list.specs.declared.item.Item.{Item}
use Rattle.mst_list.specs.declared.item.Item.TheVariants.{Key, Hole}
use Rattle.mst_list.specs.Lists.{AllAbove, Ascends, KeysOnly}
use Rattle.mst_list.specs.Maps.{IsFound, order_of, value_in}

-- what comes to be below k stays below what is above it
index_low : (j i k : List ℕ) → key_cmp j i ≡ Less → ordering_index (key_cmp j k) ≤ ordering_index (key_cmp i k)
index_low j i k low = elim (key_cmp i k) as (λ o. key_cmp i k ≡ o → ordering_index (key_cmp j k) ≤ ordering_index o) [
  | Less ↦ λ e. rw (cmp_trans j i k low e) (omega arith)
  | Equal ↦ λ e. let less : key_cmp j k ≡ Less = ap (key_cmp j) (sym (cmp_exact i k e)) ∙ low in rw less (omega arith)
  | Greater ↦ λ e. index_most (key_cmp j k)
] refl
  where
    index_most : (o : Ordering) → ordering_index o ≤ ordering_index Greater
    index_most Less = omega arith
    index_most Equal = omega arith
    index_most Greater = omega arith

above_index : (j k : List ℕ) (s : List Item) (i : ℕ) (d : Item) → AllAbove j s → KeysOnly s → i < length s → ordering_index (key_cmp j k) ≤ ordering_index (order_of k (get_or s i d))
above_index j k [] i d above keys low = absurd (omega arith)
above_index j k (Hole l c ∷ s) i d above keys low = absurd keys
above_index j k (Key i v ∷ s) zero d above keys low = index_low j i k above.0
above_index j k (Key i v ∷ s) (suc n) d above keys low = above_index j k s n d above.1 keys (omega arith)

-- the keys of a map compare in order
searchable : (k : List ℕ) (s : List Item) → Ascends s → KeysOnly s → IsNonDecreasingBy (λ x. ordering_index (order_of k x)) s
searchable k [] up keys i j d le low = absurd (omega arith)
searchable k (Hole l c ∷ s) up keys i j d le low = absurd keys
searchable k (Key i v ∷ s) up keys zero zero d le low = omega arith
searchable k (Key i v ∷ s) up keys zero (suc j) d le low = above_index i k s j d up.0 keys (omega arith)
searchable k (Key i v ∷ s) up keys (suc n) zero d le low = absurd (omega arith)
searchable k (Key i v ∷ s) up keys (suc n) (suc j) d le low = searchable k s up.1 keys n j d (omega arith) (omega arith)

-- the item at a place has the key k
abbrev HasAt : List ℕ → List Item → ℕ → Type 0
HasAt k s n = HoldsAt (λ x. order_of k x ≡ Equal) s n

above_at : (j k : List ℕ) (s : List Item) (n : ℕ) → AllAbove j s → KeysOnly s → n < length s → HasAt k s n → key_cmp j k ≡ Less
above_at j k [] n above keys low at = absurd (omega arith)
above_at j k (Hole l c ∷ s) n above keys low at = absurd keys
above_at j k (Key i v ∷ s) zero above keys low at = subst (λ (y : List ℕ). key_cmp j y ≡ Less) (cmp_exact i k (at (Key i v))) above.0
above_at j k (Key i v ∷ s) (suc n) above keys low at = above_at j k s n above.1 keys (omega arith) (λ d. at d)

key_found : (k : List ℕ) (s : List Item) (n : ℕ) → Ascends s → KeysOnly s → n < length s → HasAt k s n → IsFound k s (Ok n)
key_found k [] n up keys low at = absurd (omega arith)
key_found k (Hole l c ∷ s) n up keys low at = absurd keys
key_found k (Key j v ∷ s) zero up keys low at = rw (at (Key j v)) (refl, omega arith, λ x is. sym (ap value_in is), refl)
key_found k (Key j v ∷ s) (suc n) up keys low at =
    let f = key_found k s n up.1 keys (omega arith) (λ d. at d) in
    rw (above_at j k s n up.0 keys (omega arith) (λ d. at d)) (ap suc f.0, omega arith, f.2, f.3)

gap_found : (k : List ℕ) (s : List Item) (n : ℕ) → KeysOnly s → n ≤ length s → IsPartitionPoint (λ x. order_of k x ≡ Less) (λ x. order_of k x ≡ Greater) s n → IsFound k s (Err n)
gap_found k [] zero keys low at = (refl, omega arith, refl)
gap_found k [] (suc n) keys low at = absurd (omega arith)
gap_found k (Hole l c ∷ s) n keys low at = absurd keys
gap_found k (Key j v ∷ s) zero keys low at = rw (at.1 0 (Key j v) (omega arith) (omega arith)) (refl, omega arith, refl)
gap_found k (Key j v ∷ s) (suc n) keys low at =
    let f = gap_found k s n keys (omega arith) (λ i d a b. at.0 (suc i) d (omega arith) (omega arith), λ i d a b. at.1 (suc i) d (omega arith) (omega arith)) in
    rw (at.0 0 (Key j v) (omega arith) (omega arith)) (ap suc f.0, omega arith, f.2)

pub found : (k : List ℕ) (s : List Item) (r : Result ℕ ℕ) → Ascends s → KeysOnly s → IsSearchInRange r (length s) → IsBinarySearchResult (order_of k) s r → IsFound k s r
found k s (Ok n) up keys low at = key_found k s n up keys low at
found k s (Err n) up keys low at = gap_found k s n keys low (at (searchable k s up keys))
