-- Maps in pieces, which are seen as one list.
use Rattle.std.specs.Prelude.{◌≡◌, ℕ, ◌<◌, ◌≤◌, Bool, true, false, List, [], ◌∷◌, ◌++◌, length, set, slice_index_or, Option}
use Rattle.std.specs.List.{AllByRecursion}
use Rattle.std.specs.List.Sorted.{IsPartitionPoint}
use Rattle.at_cid.specs.Order.{key_cmp}
use Rattle.mst_list.specs.declared.item.Item.{Item}
use Rattle.mst_list.specs.declared.item.Item.TheVariants.{Key, Hole}
use Rattle.mst_list.specs.Edits.{by_order, put, value_at}
use Rattle.mst_list.specs.Lists.{Ascends, KeysOnly}

-- a piece: some entries in order
pub record IsPiece (s : List Item) : Type 0 where
  pub some : 0 < length s
  pub ascends : Ascends s
  pub whole : KeysOnly s

-- the pieces, one after another
abbrev pub flatten : List (List Item) → List Item
flatten [] = []
flatten (p ∷ ps) = p ++ flatten ps

-- no piece is empty
abbrev pub AreFilled : List (List Item) → Type 0
AreFilled ps = AllByRecursion (λ p. 0 < length p) ps

-- the pieces are those of a map
pub record ArePieces (ps : List (List Item)) : Type 0 where
  pub ascends : Ascends (flatten ps)
  pub whole : KeysOnly (flatten ps)
  pub filled : AreFilled ps

-- the pieces of a map, of so many entries
pub record AreCounted (ps : List (List Item)) (count : ℕ) : Type 0 where
  pub are : ArePieces ps
  pub counted : count ≡ length (flatten ps)

-- the piece begins with the key k or with one below it
abbrev pub begins_by : List ℕ → List Item → Bool
begins_by k [] = false
begins_by k (Key j v ∷ s) = by_order (key_cmp j k) true true false
begins_by k (Hole l c ∷ s) = false

-- the pieces up to a place begin with k or below it, and those from there on above it
abbrev pub IsCountBegun : List ℕ → List (List Item) → ℕ → Type 0
IsCountBegun k ps n = (n ≤ length ps)
    × IsPartitionPoint (λ p. begins_by k p ≡ true) (λ p. begins_by k p ≡ false) ps n

-- the piece at a place is where k stands, or would stand: what is read or put at k in all of the
-- map is read or put there
pub record IsPlace (k : List ℕ) (ps : List (List Item)) (at : ℕ) : Type 0 where
  pub low : at < length ps
  pub value : (p : List Item) → p ≡ slice_index_or ps at p → value_at k (flatten ps) ≡ value_at k p
  pub edit : (p : List Item) → p ≡ slice_index_or ps at p → (o : Option (List ℕ))
      → put k o (flatten ps) ≡ flatten (set ps at (put k o p))

-- the item with another link
abbrev pub with_link : Item → List ℕ → Item
with_link (Key k v) link = Key k link
with_link (Hole l c) link = Hole l c
