-- Operations of different keys may be undone in any order.
use Rattle.std.proofs.Common.{◌≡◌, ◌≢◌, ℕ, List, [], ◌∷◌, ◌++◌, refl, sym, ap, ◌∙◌, Ordering, Less, Equal, Greater, Option, Some, None, append_assoc}
use Rattle.mst_list.specs.declared.item.Item.{Item}
use Rattle.mst_list.specs.declared.item.Item.TheVariants.{Key, Hole}
use Rattle.mst_list.specs.declared.op.Op.{Op}
use Rattle.at_cid.specs.Order.{key_cmp}
use Rattle.mst_list.specs.Lists.{IsWellLaid}
use Rattle.mst_list.specs.Edits.{by_order, before, after, value_at, with_value, put, IsGuarded, AllAgree, IsNewTo, AreApart, AreFormedOps, undone}
use Rattle.at_cid.proofs.Order.{cmp_trans, cmp_same, cmp_exact, cmp_below}
use Rattle.mst_list.proofs.Places.{AllBelow, StartsAbove, rebuilt, below_before, before_placed, after_placed}
use Rattle.mst_list.proofs.Replay.{all_below_up, all_below_join, after_starts}
use Rattle.mst_list.specs.Laws.{UndoingOrderLaw}
use Rattle.mst_list.proofs.Kept.{before_front, after_front}
use Rattle.mst_list.proofs.Laid.{kept, clear_of_guard}
use Rattle.mst_list.proofs.Orders.{order_keeps}

before_at : (k : List ℕ) (o : Option (List ℕ)) (A B : List Item) → AllBelow k A → (o ≡ None → StartsAbove k B) → before k (A ++ (with_value k o ++ B)) ≡ A
before_at k None A B low high = before_placed k None A B low (high refl)
before_at k (Some v) [] B low high = rw cmp_same refl
before_at k (Some v) (Key j w ∷ A) B low high = rw low.0 (ap (λ G. Key j w ∷ G) (before_at k (Some v) A B low.1 high))
before_at k (Some v) (Hole l c ∷ A) B low high = ap (λ G. Hole l c ∷ G) (before_at k (Some v) A B low high)

after_at : (k : List ℕ) (o : Option (List ℕ)) (A B : List Item) → AllBelow k A → (o ≡ None → StartsAbove k B) → after k (A ++ (with_value k o ++ B)) ≡ B
after_at k None A B low high = after_placed k None A B low (high refl)
after_at k (Some v) [] B low high = rw cmp_same refl
after_at k (Some v) (Key j w ∷ A) B low high = rw low.0 (after_at k (Some v) A B low.1 high)
after_at k (Some v) (Hole l c ∷ A) B low high = after_at k (Some v) A B low high

pub put_front : (k : List ℕ) (o : Option (List ℕ)) (A Y : List Item) → StartsAbove k Y → put k o (A ++ Y) ≡ put k o A ++ Y
put_front k o A Y h =
    rw (before_front k A Y h, after_front k A Y h)
    (ap (λ x. before k A ++ x) (sym (append_assoc (with_value k o) (after k A) Y)) ∙ sym (append_assoc (before k A) (with_value k o ++ after k A) Y))

starts_up : (k j : List ℕ) (Y : List Item) → key_cmp k j ≡ Less → StartsAbove j Y → StartsAbove k Y
starts_up k j [] e h = tt
starts_up k j (Key i w ∷ Y) e h = cmp_trans k j i e h
starts_up k j (Hole l c ∷ Y) e h = absurd h

pub starts_at : (k j : List ℕ) (o : Option (List ℕ)) (B : List Item) → key_cmp k j ≡ Less → (o ≡ None → StartsAbove j B) → StartsAbove k (with_value j o ++ B)
starts_at k j (Some v) B e h = e
starts_at k j None B e h = starts_up k j B e (h refl)

pub value_below : (k j : List ℕ) (o : Option (List ℕ)) → key_cmp k j ≡ Less → AllBelow j (with_value k o)
value_below k j (Some v) e = (e, tt)
value_below k j None e = tt

pub put_below : (k j : List ℕ) (o : Option (List ℕ)) (A : List Item) → key_cmp k j ≡ Less → AllBelow j A → AllBelow j (put k o A)
put_below k j o A e low = all_below_join j (before k A) (with_value k o ++ after k A) (all_below_up k j (before k A) e (below_before k A)) (all_below_join j (with_value k o) (after k A) (value_below k j o e) (back A low))
  where
    back : (A : List Item) → AllBelow j A → AllBelow j (after k A)
    back [] low = tt
    back (Hole l c ∷ A) low = back A low
    back (Key i w ∷ A) low =
        let more = back A low.1 in
        elim (key_cmp i k) as (λ o. AllBelow j (by_order o (after k A) A (Key i w ∷ A))) [ Less ↦ more | Equal ↦ low.1 | Greater ↦ low ]

-- two edits of different keys, the first one below the second
low_high : (k j : List ℕ) (o p : Option (List ℕ)) (G : List Item) → key_cmp k j ≡ Less → ((q : Option (List ℕ)) → q ≡ value_at j G → q ≡ None → StartsAbove j (after j G)) → (p ≡ None → StartsAbove j (after j G))
    → put j p (put k o G) ≡ put k o (put j p G)
low_high k j o p G e now was =
    let A = before j G in let B = after j G in let q = value_at j G in
    let low = below_before j G in
    let hq : q ≡ None → StartsAbove j B = now q refl in
    let left : put k o G ≡ put k o A ++ (with_value j q ++ B) = ap (put k o) (sym (rebuilt j G)) ∙ put_front k o A (with_value j q ++ B) (starts_at k j q B e hq) in
    let low' = put_below k j o A e low in
    let there : put j p (put k o A ++ (with_value j q ++ B)) ≡ put k o A ++ (with_value j p ++ B) = rw (before_at j q (put k o A) B low' hq, after_at j q (put k o A) B low' hq) refl in
    ap (put j p) left ∙ there ∙ sym (put_front k o A (with_value j p ++ B) (starts_at k j p B e was))

commute : (k j : List ℕ) (o p : Option (List ℕ)) (G : List Item) → k ≢ j → (value_at k G ≡ None → StartsAbove k (after k G)) → (o ≡ None → StartsAbove k (after k G)) → (value_at j G ≡ None → StartsAbove j (after j G)) → (p ≡ None → StartsAbove j (after j G))
    → put j p (put k o G) ≡ put k o (put j p G)
commute k j o p G ne now_k was_k now_j was_j = go (key_cmp k j) refl
  where
    go : (x : Ordering) → key_cmp k j ≡ x → put j p (put k o G) ≡ put k o (put j p G)
    go Less e = low_high k j o p G e (λ q is n. now_j (sym is ∙ n)) was_j
    go Equal e = absurd (ne (cmp_exact k j e))
    go Greater e = sym (low_high j k p o G (cmp_below k j e) (λ q is n. now_k (sym is ∙ n)) was_k)

-- what undoing asks of operations
record CanUndo (F : List Item) (ops : List Op) : Type 0 where
  formed : AreFormedOps ops
  apart : AreApart ops
  agree : AllAgree F ops
  guard : IsGuarded F ops

-- two neighbours exchanged
pub new_exchanged : (k : List ℕ) (A : List Op) (x y : Op) (B : List Op) → IsNewTo k (A ++ (x ∷ (y ∷ B))) → IsNewTo k (A ++ (y ∷ (x ∷ B)))
new_exchanged k [] x y B h = (h.1.0, (h.0, h.1.1))
new_exchanged k (a ∷ A) x y B h = (h.0, new_exchanged k A x y B h.1)

formed_exchanged : (A : List Op) (x y : Op) (B : List Op) → AreFormedOps (A ++ (x ∷ (y ∷ B))) → AreFormedOps (A ++ (y ∷ (x ∷ B)))
formed_exchanged [] x y B h = (h.1.0, (h.0, h.1.1))
formed_exchanged (a ∷ A) x y B h = (h.0, formed_exchanged A x y B h.1)

pub apart_exchanged : (A : List Op) (x y : Op) (B : List Op) → AreApart (A ++ (x ∷ (y ∷ B))) → AreApart (A ++ (y ∷ (x ∷ B)))
apart_exchanged [] x y B h = ((λ e. h.0.0 (sym e), h.1.0), (h.0.1, h.1.1))
apart_exchanged (a ∷ A) x y B h = (new_exchanged a.key A x y B h.0, apart_exchanged A x y B h.1)

agree_exchanged : (F : List Item) (A : List Op) (x y : Op) (B : List Op) → AllAgree F (A ++ (x ∷ (y ∷ B))) → AllAgree F (A ++ (y ∷ (x ∷ B)))
agree_exchanged F [] x y B h = (h.1.0, (h.0, h.1.1))
agree_exchanged F (a ∷ A) x y B h = (h.0, agree_exchanged F A x y B h.1)

guard_exchanged : (F : List Item) (A : List Op) (x y : Op) (B : List Op) → IsGuarded F (A ++ (x ∷ (y ∷ B))) → IsGuarded F (A ++ (y ∷ (x ∷ B)))
guard_exchanged F [] x y B h = (h.1.0, (h.0, h.1.1))
guard_exchanged F (a ∷ A) x y B h = (h.0, guard_exchanged F A x y B h.1)

can_exchanged : (F : List Item) (A : List Op) (x y : Op) (B : List Op) → CanUndo F (A ++ (x ∷ (y ∷ B))) → CanUndo F (A ++ (y ∷ (x ∷ B)))
can_exchanged F A x y B c = record { formed = formed_exchanged A x y B c.formed; apart = apart_exchanged A x y B c.apart; agree = agree_exchanged F A x y B c.agree; guard = guard_exchanged F A x y B c.guard }

-- which of two neighbours is undone first doesn't matter
undone_exchanged : (F : List Item) (A : List Op) (x y : Op) (B : List Op) → IsWellLaid F → CanUndo F (A ++ (x ∷ (y ∷ B))) → undone F (A ++ (y ∷ (x ∷ B))) ≡ undone F (A ++ (x ∷ (y ∷ B)))
undone_exchanged F (a ∷ A) x y B w c = ap (put a.key a.was) (undone_exchanged F A x y B w (record { formed = c.formed.1; apart = c.apart.1; agree = c.agree.1; guard = c.guard.1 }))
undone_exchanged F [] x y B w c =
    let K = kept F B w c.formed.1.1 c.apart.1.1 c.agree.1.1 c.guard.1.1 in let G = undone F B in
    let up = K.well_laid.ascends in
    let new_x = c.apart.0.1 in let new_y = c.apart.1.0 in
    let cx = clear_of_guard x.key x.was x.now F c.agree.0 c.guard.0 in let cy = clear_of_guard y.key y.was y.now F c.agree.1.0 c.guard.1.0 in
    let at_x = K.value x.key new_x ∙ c.agree.0 in let at_y = K.value y.key new_y ∙ c.agree.1.0 in
    commute x.key y.key x.was y.was G c.apart.0.0
    (λ n. after_starts x.key G up (K.clear x.key new_x (cx.1 (sym at_x ∙ n))).no_hole_after) (λ e. after_starts x.key G up (K.clear x.key new_x (cx.0 e)).no_hole_after)
    (λ n. after_starts y.key G up (K.clear y.key new_y (cy.1 (sym at_y ∙ n))).no_hole_after) (λ e. after_starts y.key G up (K.clear y.key new_y (cy.0 e)).no_hole_after)

-- the order of undoing doesn't matter
pub any_order : UndoingOrderLaw
any_order F ops reordered w formed apart agree guard same =
    (order_keeps (λ (l : List Op). CanUndo F l × (undone F l ≡ undone F ops)) (λ A x y B h. (can_exchanged F A x y B h.0, undone_exchanged F A x y B w h.0 ∙ h.1)) ops reordered same (record { formed = formed; apart = apart; agree = agree; guard = guard }, refl)).1
