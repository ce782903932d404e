-- Maps whose keys are found by halving, and operations of different keys, which are judged on the
-- map as it is.
use Rattle.std.specs.Prelude.{◌≡◌, ◌≢◌, ◌<◌, ◌≤◌, ℕ, zero, suc, List, [], ◌∷◌, length, slice_index_or, is_some, true, Option, Some, None, Result, Ok, Err}
use Rattle.std.specs.List.{AllByRecursion}
use Rattle.std.specs.declared.cmp.Ordering.{Ordering}
use Rattle.std.specs.declared.cmp.Ordering.TheVariants.{Less}
use Rattle.at_cid.specs.Order.{key_cmp}
use Rattle.mst_list.specs.declared.item.Item.{Item}
use Rattle.mst_list.specs.declared.item.Item.TheVariants.{Key, Hole}
use Rattle.mst_list.specs.declared.op.Op.{Op}
use Rattle.mst_list.specs.declared.playing.PlayFault.{PlayFault}
use Rattle.mst_list.specs.Edits.{before, value_at, put}

-- how an item's key compares with k; a map has no holes
abbrev pub order_of : List ℕ → Item → Ordering
order_of k (Key j v) = key_cmp j k
order_of k (Hole l c) = Less

-- the value of an item's key
abbrev pub value_in : Item → Option (List ℕ)
value_in (Key k v) = Some v
value_in (Hole l c) = None

-- a search for k: the place of the item that holds it, or else the place where it would stand
abbrev pub IsFound : List ℕ → List Item → Result ℕ ℕ → Type 0
IsFound k s (Ok at) = (at ≡ length (before k s)) × (at < length s) × ((x : Item)
    → x ≡ slice_index_or s at x → value_at k s ≡ value_in x) × (is_some (value_at k s) ≡ true)
IsFound k s (Err at) = (at ≡ length (before k s)) × (at ≤ length s) × (value_at k s ≡ None)

-- each operation finds at its key what it says was there
abbrev pub AllApply : List Item → List Op → Type 0
AllApply s ops = AllByRecursion (λ op. value_at op.key s ≡ op.was) ops

-- the operation at this place is the first that doesn't
abbrev pub IsFirstToFail : List Item → List Op → ℕ → Type 0
IsFirstToFail s [] i = ⊥
IsFirstToFail s (op ∷ ops) zero = value_at op.key s ≢ op.was
IsFirstToFail s (op ∷ ops) (suc i) = (value_at op.key s ≡ op.was) × IsFirstToFail s ops i

abbrev pub IsJudgedFault : List Item → List Op → PlayFault → Type 0
IsJudgedFault s ops (PlayFault.Clash i) = IsFirstToFail s ops i
IsJudgedFault s ops PlayFault.Memory = ⊥

-- the map after the operations
abbrev pub edited : List Item → List Op → List Item
edited s [] = s
edited s (op ∷ ops) = edited (put op.key op.now s) ops
