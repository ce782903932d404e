-- A key is visible with a value where an item holds it so; and what an edit leaves.
use Rattle.std.proofs.Common.{◌≡◌, ℕ, zero, suc, List, [], ◌∷◌, ◌++◌, refl, sym, ap, ◌∙◌, subst, Ordering, Less, Equal, Greater, Option, Some, None, arith}
use Rattle.std.specs.List.{Contains}
use Rattle.at_cid.specs.Order.{key_cmp}
use Rattle.at_cid.proofs.Order.{cmp_same, cmp_exact, cmp_above}
use Rattle.mst_list.specs.declared.item.Item.{Item}
use Rattle.mst_list.specs.declared.item.Item.TheVariants.{Key, Hole}
use Rattle.mst_list.specs.Lists.{AllAbove, Ascends}
use Rattle.mst_list.specs.Edits.{by_order, before, after, value_at, with_value}
use Rattle.mst_list.specs.Laws.{VisibleLaw, EditLaw, without}
use Rattle.mst_list.proofs.Places.{AllBelow, rebuilt, below_before}
use Rattle.mst_list.proofs.Fills.{ascends_last, is_below_parts}
use Rattle.mst_list.proofs.Replay.{value_ascends}
use Rattle.mst_list.proofs.Kept.{no_value, value_back, above_after, value_other}

later : (x y : Item) (F : List Item) → Contains F x → Contains (y ∷ F) x
later x y F c = (suc c.0, let low = c.1 in omega arith, c.2)

held : (F : List Item) (k v : List ℕ) → value_at k F ≡ Some v → Contains F (Key k v)
held [] k v e = absurd cc
held (Hole l c ∷ F) k v e = later (Key k v) (Hole l c) F (held F k v e)
held (Key j w ∷ F) k v e = go (key_cmp j k) refl e (λ f. held F k v f)
  where
    go : (o : Ordering) → key_cmp j k ≡ o → by_order o (value_at k F) (Some w) None ≡ Some v → (value_at k F ≡ Some v → Contains F (Key k v)) → Contains (Key j w ∷ F) (Key k v)
    go Less is e more = later (Key k v) (Key j w) F (more e)
    go Equal is e more = let same = cmp_exact j k is in let value : w ≡ v = cc in (0, omega arith, ap (λ i. Key i w) same ∙ ap (Key k) value)
    go Greater is e more = absurd cc

above_item : (j : List ℕ) (F : List Item) (k v : List ℕ) → AllAbove j F → Contains F (Key k v) → key_cmp j k ≡ Less
above_item j [] k v above c = let low = c.1 in absurd (omega arith)
above_item j (x ∷ F) k v above (zero, low, at) = first x at above
  where
    first : (x : Item) → x ≡ Key k v → AllAbove j (x ∷ F) → key_cmp j k ≡ Less
    first (Key i w) e above = let same : i ≡ k = cc in subst (λ (y : List ℕ). key_cmp j y ≡ Less) same above.0
    first (Hole l d) e above = absurd cc
above_item j (Key i w ∷ F) k v above (suc n, low, at) = above_item j F k v above.1 (n, omega arith, at)
above_item j (Hole l d ∷ F) k v above (suc n, low, at) = above_item j F k v above (n, omega arith, at)

seen : (F : List Item) (k v : List ℕ) → Ascends F → Contains F (Key k v) → value_at k F ≡ Some v
seen [] k v up c = let low = c.1 in absurd (omega arith)
seen (Hole l d ∷ F) k v up (zero, low, at) = absurd cc
seen (Hole l d ∷ F) k v up (suc n, low, at) = seen F k v up (n, omega arith, at)
seen (Key j w ∷ F) k v up (zero, low, at) =
    let e : Key j w ≡ Key k v = at in let key : j ≡ k = cc in let value : w ≡ v = cc in
    rw (key, cmp_same, value) refl
seen (Key j w ∷ F) k v up (suc n, low, at) =
    let inside : Contains F (Key k v) = (n, omega arith, at) in
    rw (above_item j F k v up.0 inside) (seen F k v up.1 inside)

pub visible_law : VisibleLaw
visible_law F k v up = (held F k v, seen F k v up)

value_put_at : (k : List ℕ) (o : Option (List ℕ)) (A B : List Item) → AllBelow k A → AllAbove k B → value_at k (A ++ (with_value k o ++ B)) ≡ o
value_put_at k None A B low high = value_back k A B low ∙ no_value k B high
value_put_at k (Some v) A B low high = value_back k A (Key k v ∷ B) low ∙ rw cmp_same refl

without_join : (k : List ℕ) (A B : List Item) → without k (A ++ B) ≡ without k A ++ without k B
without_join k [] B = refl
without_join k (Hole l c ∷ A) B = ap (λ G. Hole l c ∷ G) (without_join k A B)
without_join k (Key j v ∷ A) B =
    elim (key_cmp j k) as (λ o. by_order o (Key j v ∷ without k (A ++ B)) (without k (A ++ B)) (Key j v ∷ without k (A ++ B)) ≡ by_order o (Key j v ∷ without k A) (without k A) (Key j v ∷ without k A) ++ without k B) [
      | Less ↦ ap (λ G. Key j v ∷ G) (without_join k A B)
      | Equal ↦ without_join k A B
      | Greater ↦ ap (λ G. Key j v ∷ G) (without_join k A B)
    ]

without_below : (k : List ℕ) (A : List Item) → AllBelow k A → without k A ≡ A
without_below k [] low = refl
without_below k (Hole l c ∷ A) low = ap (λ G. Hole l c ∷ G) (without_below k A low)
without_below k (Key j v ∷ A) low = rw low.0 (ap (λ G. Key j v ∷ G) (without_below k A low.1))

without_above : (k : List ℕ) (B : List Item) → AllAbove k B → without k B ≡ B
without_above k [] high = refl
without_above k (Hole l c ∷ B) high = ap (λ G. Hole l c ∷ G) (without_above k B high)
without_above k (Key j v ∷ B) high = rw (cmp_above k j high.0) (ap (λ G. Key j v ∷ G) (without_above k B high.1))

without_value : (k : List ℕ) (o : Option (List ℕ)) (B : List Item) → AllAbove k B → without k (with_value k o ++ B) ≡ B
without_value k None B high = without_above k B high
without_value k (Some v) B high = rw cmp_same (without_above k B high)

without_placed : (k : List ℕ) (o : Option (List ℕ)) (A B : List Item) → AllBelow k A → AllAbove k B → without k (A ++ (with_value k o ++ B)) ≡ A ++ B
without_placed k o A B low high = without_join k A (with_value k o ++ B) ∙ ap (λ G. G ++ without k (with_value k o ++ B)) (without_below k A low) ∙ ap (λ G. A ++ G) (without_value k o B high)

pub edit_law : EditLaw
edit_law F k o up =
    let A = before k F in let B = after k F in let now = value_at k F in
    let low = below_before k F in let high = above_after k F up in
    let U : List Item → Type 0 = λ x. Ascends x in
    let parts = is_below_parts A (with_value k now ++ B) (subst U (sym (rebuilt k F)) up) in
    record {
      ascends = value_ascends k o A B low high parts.0 (ascends_last (with_value k now) B parts.2);
      value = value_put_at k o A B low high;
      others = λ j other. value_other j k A B o now low high other ∙ ap (value_at j) (rebuilt k F);
      rest = without_placed k o A B low high ∙ sym (without_placed k now A B low high) ∙ ap (without k) (rebuilt k F);
    }
