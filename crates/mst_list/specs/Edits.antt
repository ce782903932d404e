-- Playing operations on maps, and undoing them on lists with holes. Both are one edit: a value, or
-- nothing, is put at a key.
use Rattle.std.specs.Prelude.{◌≡◌, ◌≢◌, ℕ, List, [], ◌∷◌, ◌++◌, Option, Some, None}
use Rattle.std.specs.List.{AllByRecursion}
use Rattle.std.specs.declared.cmp.Ordering.{Ordering}
use Rattle.std.specs.declared.cmp.Ordering.TheVariants.{Less, Equal, Greater}
use Rattle.mst_list.specs.declared.item.Item.{Item}
use Rattle.mst_list.specs.declared.item.Item.TheVariants.{Key, Hole}
use Rattle.mst_list.specs.declared.op.Op.{Op}
use Rattle.at_cid.specs.Link.{IsLinkOrNone}
use Rattle.mst_list.specs.Lists.{IsKey}
use Rattle.at_cid.specs.Order.{key_cmp}

-- the first value below, the second alike, the third above
abbrev pub by_order : {A : Type 0} → Ordering → A → A → A → A
by_order Less a b c = a
by_order Equal a b c = b
by_order Greater a b c = c

-- the items before the first key that isn't below k
abbrev pub before : List ℕ → List Item → List Item
before k [] = []
before k (Key j v ∷ F) = by_order (key_cmp j k) (Key j v ∷ before k F) [] []
before k (Hole l c ∷ F) = Hole l c ∷ before k F

-- the items from the first key that is above k
abbrev pub after : List ℕ → List Item → List Item
after k [] = []
after k (Key j v ∷ F) = by_order (key_cmp j k) (after k F) F (Key j v ∷ F)
after k (Hole l c ∷ F) = after k F

-- the value of k where it is visible
abbrev pub value_at : List ℕ → List Item → Option (List ℕ)
value_at k [] = None
value_at k (Key j v ∷ F) = by_order (key_cmp j k) (value_at k F) (Some v) None
value_at k (Hole l c ∷ F) = value_at k F

-- the key with a value, or nothing
abbrev pub with_value : List ℕ → Option (List ℕ) → List Item
with_value k (Some v) = Key k v ∷ []
with_value k None = []

-- the list with the value at k, or without k
abbrev pub put : List ℕ → Option (List ℕ) → List Item → List Item
put k o F = before k F ++ (with_value k o ++ after k F)

-- the operation plays on s and gives t
abbrev pub PlaysOne : List Item → Op → List Item → Type 0
PlaysOne s op t = (value_at op.key s ≡ op.was) × (t ≡ put op.key op.now s)

-- the operations play on s one after another and give t
abbrev pub Plays : List Item → List Op → List Item → Type 0
Plays s [] t = t ≡ s
Plays s (op ∷ ops) t = (value_at op.key s ≡ op.was) × Plays (put op.key op.now s) ops t

-- the list with the operations undone, the last one first
abbrev pub undone : List Item → List Op → List Item
undone F [] = F
undone F (op ∷ ops) = put op.key op.was (undone F ops)

-- the operation agrees with the list: its key has the value that it left, or isn't visible where it
-- left none
abbrev pub Agrees : List Item → Op → Type 0
Agrees F op = value_at op.key F ≡ op.now

-- a hole stands at the end
abbrev pub EndsInHole : List Item → Type 0
EndsInHole [] = ⊥
EndsInHole (Key k v ∷ []) = ⊥
EndsInHole (Hole l c ∷ []) = Unit {0}
EndsInHole (x ∷ (y ∷ F)) = EndsInHole (y ∷ F)

-- a hole stands at the front
abbrev pub StartsWithHole : List Item → Type 0
StartsWithHole (Hole l c ∷ F) = Unit {0}
StartsWithHole _ = ⊥

-- no hole stands beside the place of k: not before it, and not behind it where k is visible
pub record IsClear (k : List ℕ) (F : List Item) : Type 0 where
  pub no_hole_before : EndsInHole (before k F) → ⊥
  pub no_hole_after : StartsWithHole (after k F) → ⊥

-- the operation's edit of the list is safe whatever the holes hold: by kind, an update's key is
-- visible, beside a create's key or in its gap stands no hole, and in the gap of a delete's key
-- that isn't visible stands none
abbrev pub GuardedBy : List ℕ → Option (List ℕ) → Option (List ℕ) → List Item → Type 0
GuardedBy k (Some v) (Some w) F = value_at k F ≢ None
GuardedBy k None now F = IsClear k F
GuardedBy k (Some v) None F = value_at k F ≡ None → IsClear k F

abbrev pub IsGuarded : List Item → List Op → Type 0
IsGuarded F ops = AllByRecursion (λ op. GuardedBy op.key op.was op.now F) ops

abbrev pub AllAgree : List Item → List Op → Type 0
AllAgree F ops = AllByRecursion (Agrees F) ops

-- the key is none of the operations'
abbrev pub IsNewTo : List ℕ → List Op → Type 0
IsNewTo k ops = AllByRecursion (λ op. k ≢ op.key) ops

-- the operation creates, updates or deletes
abbrev pub Acts : Op → Type 0
Acts op = op.was ≡ None → op.now ≢ None

-- an operation's key and links have their forms, and it does something
abbrev pub IsFormedOp : Op → Type 0
IsFormedOp op = IsKey op.key × IsLinkOrNone op.was × IsLinkOrNone op.now × Acts op

abbrev pub AreFormedOps : List Op → Type 0
AreFormedOps ops = AllByRecursion IsFormedOp ops

-- the keys of the operations differ
abbrev pub AreApart : List Op → Type 0
AreApart [] = Unit {0}
AreApart (op ∷ ops) = IsNewTo op.key ops × AreApart ops

-- s is F with each hole replaced by a list that the hole may hold
abbrev pub Filled : (ℕ → List ℕ → List Item → Type 0) → List Item → List Item → Type 0
Filled holds [] s = s ≡ []
Filled holds (Key k v ∷ F) s = (t : List Item) × (s ≡ Key k v ∷ t) × Filled holds F t
Filled holds (Hole l c ∷ F) s =
    (g : List Item) × (t : List Item) × (s ≡ g ++ t) × holds l c g × Filled holds F t
