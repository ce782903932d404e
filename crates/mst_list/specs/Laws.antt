-- Laws of lists with holes.
use Rattle.std.specs.Prelude.{◌≡◌, ◌≢◌, ◌↔◌, ℕ, List, [], ◌∷◌, Option, Some, IsPermutation}
use Rattle.std.specs.List.{Contains}
use Rattle.mst_list.specs.declared.item.Item.{Item}
use Rattle.mst_list.specs.declared.item.Item.TheVariants.{Key, Hole}
use Rattle.mst_list.specs.declared.op.Op.{Op}
use Rattle.at_cid.specs.Order.{key_cmp}
use Rattle.mst_list.specs.Lists.{Ascends, IsWellLaid}
use Rattle.mst_list.specs.Edits.{by_order, value_at, put, undone, AllAgree, IsGuarded, AreApart, AreFormedOps}

-- the value of a key is that of the item that holds the key
abbrev pub VisibleLaw : Type 0
VisibleLaw = (F : List Item) (k v : List ℕ) → Ascends F
    → (value_at k F ≡ Some v) ↔ Contains F (Key k v)

-- the items but the key k: every other key and all holes, in order
abbrev pub without : List ℕ → List Item → List Item
without k [] = []
without k (Key j v ∷ F) =
    by_order (key_cmp j k) (Key j v ∷ without k F) (without k F) (Key j v ∷ without k F)
without k (Hole l c ∷ F) = Hole l c ∷ without k F

-- what an edit at k leaves: a list in order, in which the key has the value, or isn't visible, and
-- all else stands as it stood
pub record IsEdit (k : List ℕ) (o : Option (List ℕ)) (F G : List Item) : Type 0 where
  pub ascends : Ascends G
  pub value : value_at k G ≡ o
  pub others : (j : List ℕ) → j ≢ k → value_at j G ≡ value_at j F
  pub rest : without k G ≡ without k F

abbrev pub EditLaw : Type 0
EditLaw = (F : List Item) (k : List ℕ) (o : Option (List ℕ)) → Ascends F → IsEdit k o F (put k o F)

-- operations that agree with the list and are guarded on it are undone in whatever order with one
-- outcome
abbrev pub UndoingOrderLaw : Type 0
UndoingOrderLaw = (F : List Item) (ops reordered : List Op) → IsWellLaid F
    → AreFormedOps ops → AreApart ops → AllAgree F ops → IsGuarded F ops
    → IsPermutation ops reordered → undone F reordered ≡ undone F ops
