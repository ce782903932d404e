-- One operation that was undone is played back.
use Rattle.std.proofs.Common.{◌≡◌, ℕ, List, [], ◌∷◌, ◌++◌, refl, sym, ap, ◌∙◌, subst, Less, Equal, Greater, Option, Some, None}
use Rattle.mst_list.specs.declared.item.Item.{Item}
use Rattle.mst_list.specs.declared.item.Item.TheVariants.{Key, Hole}
use Rattle.at_cid.specs.Order.{key_cmp}
use Rattle.mst_list.specs.Lists.{AllAbove, Ascends, KeysOnly, Neighbours, AreFormed, IsMap}
use Rattle.mst_list.specs.Edits.{by_order, before, after, value_at, with_value, put, Filled, EndsInHole, StartsWithHole, IsClear}
use Rattle.at_cid.proofs.Order.{cmp_trans, cmp_exact, cmp_below}
use Rattle.mst_list.proofs.Places.{AllBelow, StartsAbove, rebuilt, below_before, before_placed, after_placed, value_placed}
use Rattle.mst_list.proofs.Fills.{filled_parts, filled_join, filled_value, value_filled, all_above_up, ascends_last, IsBelow, is_below_parts, below_key, starts_above, above_of_start, keys_only_parts, keys_only_join, formed_edited}

pub ends_tail : (x : Item) (F : List Item) → EndsInHole F → EndsInHole (x ∷ F)
ends_tail x [] h = absurd h
ends_tail (Key k v) (y ∷ F) h = h
ends_tail (Hole l c) (y ∷ F) h = h

pub all_below_up : (j k : List ℕ) (a : List Item) → key_cmp j k ≡ Less → AllBelow j a → AllBelow k a
all_below_up j k [] e h = tt
all_below_up j k (Key i v ∷ a) e h = (cmp_trans i j k h.0 e, all_below_up j k a e h.1)
all_below_up j k (Hole l c ∷ a) e h = all_below_up j k a e h

pub all_below_join : (k : List ℕ) (a b : List Item) → AllBelow k a → AllBelow k b → AllBelow k (a ++ b)
all_below_join k [] b h g = g
all_below_join k (Key i v ∷ a) b h g = (h.0, all_below_join k a b h.1 g)
all_below_join k (Hole l c ∷ a) b h g = all_below_join k a b h g

-- what fills a list of keys below k that ends in no hole is below k
pub below_filled : (holds : ℕ → List ℕ → List Item → Type 0) (k : List ℕ) (A a : List Item) → Filled holds A a → AllBelow k A → Neighbours A → (EndsInHole A → ⊥) → Ascends a → AllBelow k a
below_filled holds k [] a f low near ends up = let P : List Item → Type 0 = λ x. AllBelow k x in subst P (sym f) tt
below_filled holds k (Key j v ∷ A) a f low near ends up =
    let P : List Item → Type 0 = λ x. AllBelow k x in
    let Q : List Item → Type 0 = λ x. Ascends x in
    let up' = subst Q f.1 up in
    subst P (sym f.1) (low.0, below_filled holds k A f.0 f.2 low.1 near.1 (λ e. ends (ends_tail (Key j v) A e)) up'.1)
below_filled holds k (Hole l c ∷ []) a f low near ends up = absurd (ends tt)
below_filled holds k (Hole l c ∷ (Hole m d ∷ A)) a f low near ends up = absurd near.0
below_filled holds k (Hole l c ∷ (Key j w ∷ A)) a f low near ends up =
    let P : List Item → Type 0 = λ x. AllBelow k x in
    let Q : List Item → Type 0 = λ x. Ascends x in
    let g = f.0 in let t = f.1 in let u = f.4.0 in
    let e : a ≡ g ++ (Key j w ∷ u) = f.2 ∙ ap (λ x. g ++ x) f.4.1 in
    let parts = is_below_parts g (Key j w ∷ u) (subst Q e up) in
    let rest = below_filled holds k A u f.4.2 low.1 near.1.1 (λ h. ends (ends_tail (Key j w) A h)) parts.2.1 in
    subst P (sym e) (all_below_join k g (Key j w ∷ u) (all_below_up j k g low.0 (below_key j w g u parts.1)) (low.0, rest))

-- behind a key that no hole follows stands a greater key
pub after_starts : (k : List ℕ) (F : List Item) → Ascends F → (StartsWithHole (after k F) → ⊥) → StartsAbove k (after k F)
after_starts k [] up clear = tt
after_starts k (Hole l c ∷ F) up clear = after_starts k F up clear
after_starts k (Key j v ∷ F) up clear =
    elim (key_cmp j k) as (λ o. key_cmp j k ≡ o → (StartsWithHole (by_order o (after k F) F (Key j v ∷ F)) → ⊥) → StartsAbove k (by_order o (after k F) F (Key j v ∷ F))) [
      | Less ↦ λ e h. after_starts k F up.1 h
      | Equal ↦ λ e h. next F (cmp_exact j k e) up.0 h
      | Greater ↦ λ e h. cmp_below j k e
    ] refl clear
  where
    next : (G : List Item) → j ≡ k → AllAbove j G → (StartsWithHole G → ⊥) → StartsAbove k G
    next [] e h c = tt
    next (Hole l d ∷ G) e h c = absurd (c tt)
    next (Key i w ∷ G) e h c = rw (← e) h.0

pub start_filled : (holds : ℕ → List ℕ → List Item → Type 0) (k : List ℕ) (B b : List Item) → Filled holds B b → StartsAbove k B → StartsAbove k b
start_filled holds k [] b f h = let P : List Item → Type 0 = λ x. StartsAbove k x in subst P (sym f) tt
start_filled holds k (Key j v ∷ B) b f h = let P : List Item → Type 0 = λ x. StartsAbove k x in subst P (sym f.1) h
start_filled holds k (Hole l c ∷ B) b f h = absurd h

pub neighbours_first : (A B : List Item) → Neighbours (A ++ B) → Neighbours A
neighbours_first [] B h = tt
neighbours_first (x ∷ []) B h = (tt, tt)
neighbours_first (x ∷ (y ∷ A)) B h = (h.0, neighbours_first (y ∷ A) B h.1)

pub value_ascends : (k : List ℕ) (o : Option (List ℕ)) (a b : List Item) → AllBelow k a → AllAbove k b → Ascends a → Ascends b → Ascends (a ++ (with_value k o ++ b))
value_ascends k o [] b low high up up' = alone o
  where
    alone : (o : Option (List ℕ)) → Ascends (with_value k o ++ b)
    alone None = up'
    alone (Some v) = (high, up')
value_ascends k o (Key j v ∷ a) b low high up up' = (join a up.0, value_ascends k o a b low.1 high up.1 up')
  where
    mid : (o : Option (List ℕ)) → AllAbove j (with_value k o ++ b)
    mid None = all_above_up j k b low.0 high
    mid (Some v) = (low.0, all_above_up j k b low.0 high)

    join : (x : List Item) → AllAbove j x → AllAbove j (x ++ (with_value k o ++ b))
    join [] h = mid o
    join (Key i w ∷ x) h = (h.0, join x h.1)
    join (Hole l c ∷ x) h = join x h
value_ascends k o (Hole l c ∷ a) b low high up up' = value_ascends k o a b low high up up'

pub value_keys_only : (k : List ℕ) (o : Option (List ℕ)) → KeysOnly (with_value k o)
value_keys_only k None = tt
value_keys_only k (Some v) = tt

-- the operation plays, and what it gives fills the list
pub record IsPlayed (holds : ℕ → List ℕ → List Item → Type 0) (F s : List Item) (k : List ℕ) (was now : Option (List ℕ)) : Type 0 where
  pub agrees : value_at k s ≡ was
  pub is_map : IsMap (put k now s)
  pub fills : Filled holds F (put k now s)

pub played_at : (holds : ℕ → List ℕ → List Item → Type 0) (F A B a b : List Item) (k : List ℕ) (was now : Option (List ℕ)) → AreFormed (with_value k now) → A ++ (with_value k now ++ B) ≡ F → Filled holds A a → Filled holds B b → AllBelow k a → StartsAbove k b → IsMap (a ++ (with_value k was ++ b)) → IsPlayed holds F (a ++ (with_value k was ++ b)) k was now
played_at holds F A B a b k was now form e fa fb low high m =
    let same : put k now (a ++ (with_value k was ++ b)) ≡ a ++ (with_value k now ++ b) = rw (before_placed k was a b low high, after_placed k was a b low high) refl in
    let parts = is_below_parts a (with_value k was ++ b) m.ascends in
    let up_b = ascends_last (with_value k was) b parts.2 in
    let ko = keys_only_parts a (with_value k was ++ b) m.keys_only in
    let ko_b = keys_only_parts (with_value k was) b ko.1 in
    let is_map : IsMap (a ++ (with_value k now ++ b)) = record { formed = formed_edited k was now a b form m.formed; ascends = value_ascends k now a b low (above_of_start k b up_b high) parts.0 up_b; keys_only = keys_only_join a (with_value k now ++ b) ko.0 (keys_only_join (with_value k now) b (value_keys_only k now) ko_b.1) } in
    let fills : Filled holds (A ++ (with_value k now ++ B)) (a ++ (with_value k now ++ b)) = filled_join holds A (with_value k now ++ B) a (with_value k now ++ b) fa (filled_join holds (with_value k now) B (with_value k now) b (value_filled holds k now) fb) in
    let M : List Item → Type 0 = λ x. IsMap x in
    let P : List Item → Type 0 = λ x. Filled holds F x in
    let Q : List Item → Type 0 = λ x. Filled holds x (a ++ (with_value k now ++ b)) in
    record { agrees = value_placed k was a b low high; is_map = subst M (sym same) is_map; fills = subst P (sym same) (subst Q e fills) }

pub played : (holds : ℕ → List ℕ → List Item → Type 0) (F s : List Item) (k : List ℕ) (was now : Option (List ℕ)) → AreFormed (with_value k now) → Ascends F → Neighbours F → value_at k F ≡ now → (was ≡ None → IsClear k F) → IsMap s → Filled holds (put k was F) s → IsPlayed holds F s k was now
played holds F s k was now form up near at clear m f =
    let A = before k F in let B = after k F in
    let p = filled_parts holds A (with_value k was ++ B) s f in
    let q = filled_parts holds (with_value k was) B p.last p.fills_last in
    let a = p.first in let b = q.last in
    let e : s ≡ a ++ (with_value k was ++ b) = p.joined ∙ ap (λ x. a ++ x) (q.joined ∙ ap (λ x. x ++ b) (filled_value holds k was q.first q.fills_first)) in
    let M : List Item → Type 0 = λ x. IsMap x in
    let m' = subst M e m in
    let parts = is_below_parts a (with_value k was ++ b) m'.ascends in
    let whole : A ++ (with_value k now ++ B) ≡ F = rw (← at) (rebuilt k F) in
    let R : List Item → Type 0 = λ x. IsPlayed holds F x k was now in
    let N : List Item → Type 0 = λ x. Neighbours x in
    let sides = around was refl a b m' parts.0 parts.1 parts.2 p.fills_first q.fills_last in
    subst R (sym e) (played_at holds F A B a b k was now form whole p.fills_first q.fills_last sides.0 sides.1 m')
  where
    around : (o : Option (List ℕ)) → was ≡ o → (a b : List Item) → IsMap (a ++ (with_value k was ++ b)) → Ascends a → IsBelow a (with_value k was ++ b) → Ascends (with_value k was ++ b) → Filled holds (before k F) a → Filled holds (after k F) b → AllBelow k a × StartsAbove k b
    around None e a b m u low v fa fb =
        let c = clear e in
        let N : List Item → Type 0 = λ x. Neighbours x in (
          below_filled holds k (before k F) a fa (below_before k F) (neighbours_first (before k F) (with_value k (value_at k F) ++ after k F) (subst N (sym (rebuilt k F)) near)) c.no_hole_before u,
          start_filled holds k (after k F) b fb (after_starts k F up c.no_hole_after),
        )
    around (Some w) e a b m u low v fa fb =
        let L : Option (List ℕ) → Type 0 = λ o. IsBelow a (with_value k o ++ b) in
        let V : Option (List ℕ) → Type 0 = λ o. Ascends (with_value k o ++ b) in
        let K = keys_only_parts a (with_value k was ++ b) m.keys_only in
        let K' = keys_only_parts (with_value k was) b K.1 in
        (below_key k w a b (subst L e low), starts_above k b K'.1 (subst V e v).0)
