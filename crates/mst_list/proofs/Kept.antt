-- What an edit at one key leaves of the other keys.
use Rattle.std.proofs.Common.{◌≡◌, ◌≢◌, ℕ, List, [], ◌∷◌, ◌++◌, refl, sym, ap, ◌∙◌, subst, Ordering, Less, Equal, Greater, Option, Some, None, append-nil}
use Rattle.mst_list.specs.declared.item.Item.{Item}
use Rattle.mst_list.specs.declared.item.Item.TheVariants.{Key, Hole}
use Rattle.at_cid.specs.Order.{key_cmp}
use Rattle.mst_list.specs.Lists.{AllAbove, Ascends}
use Rattle.mst_list.specs.Edits.{by_order, before, after, value_at, with_value, EndsInHole, StartsWithHole, IsClear}
use Rattle.at_cid.proofs.Order.{cmp_trans, cmp_exact, cmp_above, cmp_below}
use Rattle.mst_list.proofs.Places.{AllBelow, StartsAbove}
use Rattle.mst_list.proofs.Fills.{all_above_up}
use Rattle.mst_list.proofs.Replay.{all_below_up}

-- reading in two parts, the second of which is above k
pub before_front : (k : List ℕ) (A Y : List Item) → StartsAbove k Y → before k (A ++ Y) ≡ before k A
before_front k [] [] h = refl
before_front k [] (Key j v ∷ Y) h = rw (cmp_above k j h) refl
before_front k [] (Hole l c ∷ Y) h = absurd h
before_front k (Hole l c ∷ A) Y h = ap (λ G. Hole l c ∷ G) (before_front k A Y h)
before_front k (Key j v ∷ A) Y h =
    elim (key_cmp j k) as (λ o. by_order o (Key j v ∷ before k (A ++ Y)) [] [] ≡ by_order o (Key j v ∷ before k A) [] []) [
      | Less ↦ ap (λ G. Key j v ∷ G) (before_front k A Y h)
      | Equal ↦ refl
      | Greater ↦ refl
    ]

pub after_front : (k : List ℕ) (A Y : List Item) → StartsAbove k Y → after k (A ++ Y) ≡ after k A ++ Y
after_front k [] [] h = refl
after_front k [] (Key j v ∷ Y) h = rw (cmp_above k j h) refl
after_front k [] (Hole l c ∷ Y) h = absurd h
after_front k (Hole l c ∷ A) Y h = after_front k A Y h
after_front k (Key j v ∷ A) Y h =
    elim (key_cmp j k) as (λ o. by_order o (after k (A ++ Y)) (A ++ Y) (Key j v ∷ (A ++ Y)) ≡ by_order o (after k A) A (Key j v ∷ A) ++ Y) [
      | Less ↦ after_front k A Y h
      | Equal ↦ refl
      | Greater ↦ refl
    ]

pub no_value : (k : List ℕ) (Y : List Item) → AllAbove k Y → value_at k Y ≡ None
no_value k [] h = refl
no_value k (Hole l c ∷ Y) h = no_value k Y h
no_value k (Key j v ∷ Y) h = rw (cmp_above k j h.0) refl

pub value_front : (k : List ℕ) (A Y : List Item) → AllAbove k Y → value_at k (A ++ Y) ≡ value_at k A
value_front k [] Y h = no_value k Y h
value_front k (Hole l c ∷ A) Y h = value_front k A Y h
value_front k (Key j v ∷ A) Y h =
    elim (key_cmp j k) as (λ o. by_order o (value_at k (A ++ Y)) (Some v) None ≡ by_order o (value_at k A) (Some v) None) [
      | Less ↦ value_front k A Y h
      | Equal ↦ refl
      | Greater ↦ refl
    ]

-- and where the first part is below k
pub before_back : (k : List ℕ) (A Y : List Item) → AllBelow k A → before k (A ++ Y) ≡ A ++ before k Y
before_back k [] Y h = refl
before_back k (Hole l c ∷ A) Y h = ap (λ G. Hole l c ∷ G) (before_back k A Y h)
before_back k (Key j v ∷ A) Y h = rw h.0 (ap (λ G. Key j v ∷ G) (before_back k A Y h.1))

pub after_back : (k : List ℕ) (A Y : List Item) → AllBelow k A → after k (A ++ Y) ≡ after k Y
after_back k [] Y h = refl
after_back k (Hole l c ∷ A) Y h = after_back k A Y h
after_back k (Key j v ∷ A) Y h = rw h.0 (after_back k A Y h.1)

pub value_back : (k : List ℕ) (A Y : List Item) → AllBelow k A → value_at k (A ++ Y) ≡ value_at k Y
value_back k [] Y h = refl
value_back k (Hole l c ∷ A) Y h = value_back k A Y h
value_back k (Key j v ∷ A) Y h = rw h.0 (value_back k A Y h.1)

pub above_after : (k : List ℕ) (F : List Item) → Ascends F → AllAbove k (after k F)
above_after k [] up = tt
above_after k (Hole l c ∷ F) up = above_after k F up
above_after k (Key j v ∷ F) up =
    elim (key_cmp j k) as (λ o. key_cmp j k ≡ o → AllAbove k (by_order o (after k F) F (Key j v ∷ F))) [
      | Less ↦ λ e. above_after k F up.1
      | Equal ↦ λ e. let P : List ℕ → Type 0 = λ i. AllAbove i F in subst P (cmp_exact j k e) up.0
      | Greater ↦ λ e. (cmp_below j k e, all_above_up k j F (cmp_below j k e) up.0)
    ] refl

-- an end
pub ends_back : (A : List Item) (y : Item) (G : List Item) → EndsInHole (A ++ (y ∷ G)) → EndsInHole (y ∷ G)
ends_back [] y G h = h
ends_back (Key k v ∷ []) y G h = h
ends_back (Hole l c ∷ []) y G h = h
ends_back (Key k v ∷ (x ∷ A)) y G h = ends_back (x ∷ A) y G h
ends_back (Hole l c ∷ (x ∷ A)) y G h = ends_back (x ∷ A) y G h

pub ends_front : (A : List Item) (y : Item) (G : List Item) → EndsInHole (y ∷ G) → EndsInHole (A ++ (y ∷ G))
ends_front [] y G h = h
ends_front (Key k v ∷ []) y G h = h
ends_front (Hole l c ∷ []) y G h = h
ends_front (Key k v ∷ (x ∷ A)) y G h = ends_front (x ∷ A) y G h
ends_front (Hole l c ∷ (x ∷ A)) y G h = ends_front (x ∷ A) y G h

-- the list with an edit in the midst
module _ (k j : List ℕ) (A B : List Item) (was now : Option (List ℕ)) (low : AllBelow j A) (high : AllAbove j B) where
  value_low : (o : Option (List ℕ)) → key_cmp k j ≡ Less → value_at k (A ++ (with_value j o ++ B)) ≡ value_at k A
  value_low (Some v) e = value_front k A (Key j v ∷ B) (e, all_above_up k j B e high)
  value_low None e = value_front k A B (all_above_up k j B e high)

  value_high : (o : Option (List ℕ)) → key_cmp j k ≡ Less → value_at k (A ++ (with_value j o ++ B)) ≡ value_at k B
  value_high (Some v) e = value_back k A (Key j v ∷ B) (all_below_up j k A e low) ∙ rw e refl
  value_high None e = value_back k A B (all_below_up j k A e low)

  pub value_other : k ≢ j → value_at k (A ++ (with_value j was ++ B)) ≡ value_at k (A ++ (with_value j now ++ B))
  value_other ne = go (key_cmp k j) refl
    where
      go : (o : Ordering) → key_cmp k j ≡ o → value_at k (A ++ (with_value j was ++ B)) ≡ value_at k (A ++ (with_value j now ++ B))
      go Less e = value_low was e ∙ sym (value_low now e)
      go Equal e = absurd (ne (cmp_exact k j e))
      go Greater e = value_high was (cmp_below k j e) ∙ sym (value_high now (cmp_below k j e))

module _ (k j : List ℕ) (A B : List Item) (was now : Option (List ℕ)) (low : AllBelow j A) (high : AllAbove j B)
    (clear_was : was ≡ None → (EndsInHole A → ⊥) × StartsAbove j B) (clear_now : now ≡ None → (EndsInHole A → ⊥) × StartsAbove j B) where
  -- below the edited key
  starts_up : (o : Option (List ℕ)) → key_cmp k j ≡ Less → (o ≡ None → (EndsInHole A → ⊥) × StartsAbove j B) → StartsAbove k (with_value j o ++ B)
  starts_up (Some v) e c = e
  starts_up None e c = up B (c refl).1
    where
      up : (Y : List Item) → StartsAbove j Y → StartsAbove k Y
      up [] h = tt
      up (Key i w ∷ Y) h = cmp_trans k j i e h
      up (Hole l c ∷ Y) h = absurd h

  before_high : (o : Option (List ℕ)) → key_cmp j k ≡ Less → before k (A ++ (with_value j o ++ B)) ≡ A ++ (with_value j o ++ before k B)
  before_high (Some v) e = before_back k A (Key j v ∷ B) (all_below_up j k A e low) ∙ rw e refl
  before_high None e = before_back k A B (all_below_up j k A e low)

  after_high : (o : Option (List ℕ)) → key_cmp j k ≡ Less → after k (A ++ (with_value j o ++ B)) ≡ after k B
  after_high (Some v) e = after_back k A (Key j v ∷ B) (all_below_up j k A e low) ∙ rw e refl
  after_high None e = after_back k A B (all_below_up j k A e low)

  -- a hole at the end of what stands before k stood there before the edit
  ends_kept : (G : List Item) → EndsInHole (A ++ (with_value j was ++ G)) → EndsInHole (A ++ (with_value j now ++ G))
  ends_kept [] h = absurd (none was refl h)
    where
      none : (o : Option (List ℕ)) → was ≡ o → EndsInHole (A ++ (with_value j o ++ [])) → ⊥
      none (Some v) e h = ends_back A (Key j v) [] h
      none None e h = let P : List Item → Type 0 = λ x. EndsInHole x in (clear_was e).0 (subst P (append-nil A) h)
  ends_kept (y ∷ G) h = into now (out was h)
    where
      out : (o : Option (List ℕ)) → EndsInHole (A ++ (with_value j o ++ (y ∷ G))) → EndsInHole (y ∷ G)
      out None h = ends_back A y G h
      out (Some v) h = ends_back (Key j v ∷ []) y G (ends_back A (Key j v) (y ∷ G) h)

      into : (o : Option (List ℕ)) → EndsInHole (y ∷ G) → EndsInHole (A ++ (with_value j o ++ (y ∷ G)))
      into None h = ends_front A y G h
      into (Some v) h = ends_front A (Key j v) (y ∷ G) (ends_front (Key j v ∷ []) y G h)

  starts_kept : (G Y Z : List Item) → StartsAbove k Y → StartsWithHole (G ++ Y) → StartsWithHole (G ++ Z)
  starts_kept (x ∷ G) Y Z h s = front x s
    where
      front : (x : Item) → StartsWithHole (x ∷ (G ++ Y)) → StartsWithHole (x ∷ (G ++ Z))
      front (Key i v) s = s
      front (Hole l c) s = s
  starts_kept [] [] Z h s = absurd s
  starts_kept [] (Key i v ∷ Y) Z h s = absurd s
  starts_kept [] (Hole l c ∷ Y) Z h s = absurd h

  pub clear_other : k ≢ j → IsClear k (A ++ (with_value j now ++ B)) → IsClear k (A ++ (with_value j was ++ B))
  clear_other ne c = go (key_cmp k j) refl
    where
      go : (o : Ordering) → key_cmp k j ≡ o → IsClear k (A ++ (with_value j was ++ B))
      go Less e =
          let up_was = starts_up was e clear_was in let up_now = starts_up now e clear_now in
          let P : List Item → Type 0 = λ x. EndsInHole x in let Q : List Item → Type 0 = λ x. StartsWithHole x in
          record {
            no_hole_before = λ h. c.no_hole_before (subst P (before_front k A (with_value j was ++ B) up_was ∙ sym (before_front k A (with_value j now ++ B) up_now)) h);
            no_hole_after = λ h. c.no_hole_after (subst Q (sym (after_front k A (with_value j now ++ B) up_now)) (starts_kept (after k A) (with_value j was ++ B) (with_value j now ++ B) up_was (subst Q (after_front k A (with_value j was ++ B) up_was) h)));
          }
      go Equal e = absurd (ne (cmp_exact k j e))
      go Greater e =
          let d = cmp_below k j e in
          let P : List Item → Type 0 = λ x. EndsInHole x in let Q : List Item → Type 0 = λ x. StartsWithHole x in
          record {
            no_hole_before = λ h. c.no_hole_before (subst P (sym (before_high now d)) (ends_kept (before k B) (subst P (before_high was d) h)));
            no_hole_after = λ h. c.no_hole_after (subst Q (after_high was d ∙ sym (after_high now d)) h);
          }
