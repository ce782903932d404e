-- Operations in two turns do what they do one after another, and what the first turn did can be taken back.
use Rattle.std.proofs.Common.{◌≡◌, ◌≢◌, ℕ, zero, suc, ◌<◌, List, [], ◌∷◌, ◌++◌, length, take, get_or, refl, sym, ap, ◌∙◌, subst, arith, Ordering, Less, Equal, Greater, Option, Some, None}
use Rattle.at_cid.specs.Order.{key_cmp}
use Rattle.at_cid.proofs.Order.{cmp_below, cmp_exact}
use Rattle.mst_list.specs.declared.item.Item.{Item}
use Rattle.mst_list.specs.declared.op.Op.{Op}
use Rattle.mst_list.specs.Edits.{AreApart, IsNewTo, after, before, put, value_at, with_value}
use Rattle.mst_list.specs.Lists.{Ascends, KeysOnly}
use Rattle.mst_list.specs.Maps.{AllApply, edited}
use Rattle.mst_list.proofs.Commute.{put_below, put_front, starts_at}
use Rattle.mst_list.proofs.Fills.{keys_only_parts, starts_above}
use Rattle.mst_list.proofs.InPlace.{put_ascends, put_whole}
use Rattle.mst_list.proofs.Kept.{above_after}
use Rattle.mst_list.proofs.Places.{StartsAbove, after_placed, before_placed, below_before, rebuilt}
use Rattle.mst_list.proofs.Puts.{absent_round}
use Rattle.mst_list.proofs.Seen.{edit_law}
use Rattle.whole_map.specs.Turns.{ChangeApplies, ChangesApply, all_changed, all_created, by_was, changed, created, taken_back}

-- edits of a map
high_after : (k : List ℕ) (s : List Item) → Ascends s → KeysOnly s → StartsAbove k (after k s)
high_after k s up whole =
    let P : List Item → Type 0 = λ x. KeysOnly x in
    let parts = keys_only_parts (before k s) (with_value k (value_at k s) ++ after k s) (subst P (sym (rebuilt k s)) whole) in
    starts_above k (after k s) (keys_only_parts (with_value k (value_at k s)) (after k s) parts.1).1 (above_after k s up)

low_first : (k j : List ℕ) (o p : Option (List ℕ)) (s : List Item) → Ascends s → KeysOnly s → key_cmp k j ≡ Less → put j p (put k o s) ≡ put k o (put j p s)
low_first k j o p s up whole e =
    let A = before j s in let B = after j s in let q = value_at j s in
    let high = high_after j s up whole in
    let left : put k o s ≡ put k o A ++ (with_value j q ++ B) = ap (put k o) (sym (rebuilt j s)) ∙ put_front k o A (with_value j q ++ B) (starts_at k j q B e (λ _. high)) in
    let low = put_below k j o A e (below_before j s) in
    let there : put j p (put k o A ++ (with_value j q ++ B)) ≡ put k o A ++ (with_value j p ++ B) = rw (before_placed j q (put k o A) B low high, after_placed j q (put k o A) B low high) refl in
    ap (put j p) left ∙ there ∙ sym (put_front k o A (with_value j p ++ B) (starts_at k j p B e (λ _. high)))

swapped : (k j : List ℕ) (o p : Option (List ℕ)) (s : List Item) → Ascends s → KeysOnly s → k ≢ j → put j p (put k o s) ≡ put k o (put j p s)
swapped k j o p s up whole ne = go (key_cmp k j) refl
  where
    go : (x : Ordering) → key_cmp k j ≡ x → put j p (put k o s) ≡ put k o (put j p s)
    go Less e = low_first k j o p s up whole e
    go Equal e = absurd (ne (cmp_exact k j e))
    go Greater e = sym (low_first j k p o s up whole (cmp_below k j e))

put_away : (k : List ℕ) (o : Option (List ℕ)) (s : List Item) → Ascends s → KeysOnly s → value_at k s ≡ None → put k None (put k o s) ≡ s
put_away k o s up whole none =
    let high = high_after k s up whole in
    rw (before_placed k o (before k s) (after k s) (below_before k s) high, after_placed k o (before k s) (after k s) (below_before k s) high)
    (sym (absent_round k s none))

others : (k : List ℕ) (o : Option (List ℕ)) (s : List Item) (j : List ℕ) → Ascends s → j ≢ k → value_at j (put k o s) ≡ value_at j s
others k o s j up ne = (edit_law s k o up).others j ne

-- one operation
by_was_keeps : (P : List Item → Type 0) (o : Option (List ℕ)) (a b : List Item) → P a → P b → P (by_was o a b)
by_was_keeps P None a b here there = here
by_was_keeps P (Some v) a b here there = there

pub created_ascends : (op : Op) (s : List Item) → Ascends s → Ascends (created op s)
created_ascends op s up = by_was_keeps (λ (x : List Item). Ascends x) op.was (put op.key op.now s) s (put_ascends s op.key op.now up) up

pub created_whole : (op : Op) (s : List Item) → KeysOnly s → KeysOnly (created op s)
created_whole op s whole = by_was_keeps (λ (x : List Item). KeysOnly x) op.was (put op.key op.now s) s (put_whole s op.key op.now whole) whole

pub changed_ascends : (op : Op) (s : List Item) → Ascends s → Ascends (changed op s)
changed_ascends op s up = by_was_keeps (λ (x : List Item). Ascends x) op.was s (put op.key op.now s) up (put_ascends s op.key op.now up)

created_others : (op : Op) (s : List Item) (j : List ℕ) → Ascends s → j ≢ op.key → value_at j (created op s) ≡ value_at j s
created_others op s j up ne = by_was_keeps (λ (x : List Item). value_at j x ≡ value_at j s) op.was (put op.key op.now s) s (others op.key op.now s j up ne) refl

changed_others : (op : Op) (s : List Item) (j : List ℕ) → Ascends s → j ≢ op.key → value_at j (changed op s) ≡ value_at j s
changed_others op s j up ne = by_was_keeps (λ (x : List Item). value_at j x ≡ value_at j s) op.was s (put op.key op.now s) refl (others op.key op.now s j up ne)

-- an operation that does nothing, and one that created nothing
pub none_created : (k : List ℕ) (was now : Option (List ℕ)) (s : List Item) → was ≡ None → now ≡ None → value_at k s ≡ was → s ≡ by_was was (put k now s) s
none_created k None None s is none h = absent_round k s h
none_created k None (Some w) s is none h = absurd cc
none_created k (Some v) now s is none h = absurd cc

pub none_taken : (k : List ℕ) (was : Option (List ℕ)) (s : List Item) → was ≡ None → value_at k s ≡ None → s ≡ by_was was (put k None s) s
none_taken k None s is h = absent_round k s h
none_taken k (Some v) s is h = absurd cc

-- what the other operations find stays
pub apply_created : (op : Op) (s : List Item) (ops : List Op) → Ascends s → IsNewTo op.key ops → AllApply s ops → AllApply (created op s) ops
apply_created op s [] up new h = tt
apply_created op s (o ∷ ops) up new h = (created_others op s o.key up (λ e. new.0 (sym e)) ∙ h.0, apply_created op s ops up new.1 h.1)

pub changes_kept : (op : Op) (s : List Item) (ops : List Op) → Ascends s → IsNewTo op.key ops → ChangesApply s ops → ChangesApply (changed op s) ops
changes_kept op s [] up new h = tt
changes_kept op s (o ∷ ops) up new h =
    (subst (λ (v : Option (List ℕ)). ChangeApplies o.was v) (sym (changed_others op s o.key up (λ e. new.0 (sym e)))) h.0, changes_kept op s ops up new.1 h.1)

-- the first turn
pub all_created_ascends : (s : List Item) (ops : List Op) → Ascends s → Ascends (all_created s ops)
all_created_ascends s [] up = up
all_created_ascends s (op ∷ ops) up = all_created_ascends (created op s) ops (created_ascends op s up)

all_created_whole : (s : List Item) (ops : List Op) → KeysOnly s → KeysOnly (all_created s ops)
all_created_whole s [] whole = whole
all_created_whole s (op ∷ ops) whole = all_created_whole (created op s) ops (created_whole op s whole)

all_created_others : (s : List Item) (ops : List Op) (j : List ℕ) → Ascends s → IsNewTo j ops → value_at j (all_created s ops) ≡ value_at j s
all_created_others s [] j up new = refl
all_created_others s (op ∷ ops) j up new = all_created_others (created op s) ops j (created_ascends op s up) new.1 ∙ created_others op s j up new.0

pub all_created_more : (s : List Item) (ops : List Op) (i : ℕ) (op : Op) → i < length ops → op ≡ get_or ops i op → all_created s (take (suc i) ops) ≡ created op (all_created s (take i ops))
all_created_more s [] i op low is = absurd (omega arith)
all_created_more s (o ∷ ops) zero op low is = ap (λ (x : Op). created x s) (sym is)
all_created_more s (o ∷ ops) (suc i) op low is = all_created_more (created o s) ops i op (omega arith) is

found_at : (s : List Item) (ops : List Op) (i : ℕ) (op : Op) → Ascends s → AllApply s ops → AreApart ops → i < length ops → op ≡ get_or ops i op → value_at op.key (all_created s (take i ops)) ≡ op.was
found_at s [] i op up h apart low is = absurd (omega arith)
found_at s (o ∷ ops) zero op up h apart low is = subst (λ (x : Op). value_at x.key s ≡ x.was) (sym is) h.0
found_at s (o ∷ ops) (suc i) op up h apart low is =
    found_at (created o s) ops i op (created_ascends o s up) (apply_created o s ops up apart.0 h.1) apart.1 (omega arith) is

back_by : (k : List ℕ) (was now : Option (List ℕ)) (s : List Item) → Ascends s → KeysOnly s → value_at k s ≡ was → by_was was (put k None (by_was was (put k now s) s)) (by_was was (put k now s) s) ≡ s
back_by k None now s up whole h = put_away k now s up whole h
back_by k (Some v) now s up whole h = refl

-- one operation of the first turn taken back
pub back_one : (s : List Item) (ops : List Op) (i : ℕ) (op : Op) → Ascends s → KeysOnly s → AllApply s ops → AreApart ops → i < length ops → op ≡ get_or ops i op
    → taken_back op (all_created s (take (suc i) ops)) ≡ all_created s (take i ops)
back_one s ops i op up whole h apart low is =
    ap (taken_back op) (all_created_more s ops i op low is)
    ∙ back_by op.key op.was op.now (all_created s (take i ops)) (all_created_ascends s (take i ops) up) (all_created_whole s (take i ops) whole) (found_at s ops i op up h apart low is)

applies_by : (k : List ℕ) (was now : Option (List ℕ)) (s t : List Item) → value_at k s ≡ was → value_at k t ≡ value_at k (by_was was (put k now s) s) → ChangeApplies was (value_at k t)
applies_by k None now s t h same = tt
applies_by k (Some v) now s t h same = same ∙ h

-- the second turn finds what it asks for
pub changes_apply : (s : List Item) (ops : List Op) → Ascends s → AreApart ops → AllApply s ops → ChangesApply (all_created s ops) ops
changes_apply s [] up apart h = tt
changes_apply s (op ∷ ops) up apart h = (
  applies_by op.key op.was op.now s (all_created (created op s) ops) h.0 (all_created_others (created op s) ops op.key (created_ascends op s up) apart.0),
  changes_apply (created op s) ops (created_ascends op s up) apart.1 (apply_created op s ops up apart.0 h.1),
)

-- an edit at another key, before or after the first turn
pass_one : (k : List ℕ) (o : Option (List ℕ)) (op : Op) (s : List Item) → Ascends s → KeysOnly s → k ≢ op.key → created op (put k o s) ≡ put k o (created op s)
pass_one k o op s up whole ne = go op.was
  where
    go : (was : Option (List ℕ)) → by_was was (put op.key op.now (put k o s)) (put k o s) ≡ put k o (by_was was (put op.key op.now s) s)
    go None = swapped k op.key o op.now s up whole ne
    go (Some v) = refl

pass : (k : List ℕ) (o : Option (List ℕ)) (s : List Item) (ops : List Op) → Ascends s → KeysOnly s → IsNewTo k ops → all_created (put k o s) ops ≡ put k o (all_created s ops)
pass k o s [] up whole new = refl
pass k o s (op ∷ ops) up whole new =
    ap (λ (x : List Item). all_created x ops) (pass_one k o op s up whole new.0)
    ∙ pass k o (created op s) ops (created_ascends op s up) (created_whole op s whole) new.1

-- both turns
pub in_turns : (s : List Item) (ops : List Op) → Ascends s → KeysOnly s → AreApart ops → all_changed (all_created s ops) ops ≡ edited s ops
in_turns s [] up whole apart = refl
in_turns s (op ∷ ops) up whole apart =
    ap (λ (x : List Item). all_changed x ops) (go op.was) ∙ in_turns (put op.key op.now s) ops (put_ascends s op.key op.now up) (put_whole s op.key op.now whole) apart.1
  where
    go : (was : Option (List ℕ)) → (let t = all_created (by_was was (put op.key op.now s) s) ops in by_was was t (put op.key op.now t)) ≡ all_created (put op.key op.now s) ops
    go None = refl
    go (Some v) = sym (pass op.key op.now s ops up whole apart.0)
