-- What was played is undone on a list that the result fills.
use Rattle.std.proofs.Common.{◌≡◌, ◌≢◌, ℕ, List, [], ◌∷◌, ◌++◌, refl, sym, ap, ◌∙◌, subst, Option, Some, None}
use Rattle.mst_list.specs.declared.item.Item.{Item}
use Rattle.mst_list.specs.declared.item.Item.TheVariants.{Key, Hole}
use Rattle.mst_list.specs.declared.op.Op.{Op}
use Rattle.mst_list.specs.Lists.{Ascends, KeysOnly, Neighbours, AreFormed, IsMap, IsWellLaid}
use Rattle.mst_list.specs.Edits.{before, after, value_at, with_value, put, Filled, EndsInHole, StartsWithHole, IsClear, GuardedBy, IsGuarded, AllAgree, IsNewTo, AreApart, AreFormedOps, undone, Plays}
use Rattle.mst_list.proofs.Places.{AllBelow, StartsAbove, rebuilt, below_before, before_placed, after_placed, value_placed}
use Rattle.mst_list.proofs.Fills.{filled_parts, filled_join, filled_value, value_filled, ascends_last, IsBelow, is_below_parts, below_key, starts_above, keys_only_parts, keys_only_join, formed_value, formed_edited}
use Rattle.mst_list.proofs.Replay.{below_filled, after_starts, start_filled, neighbours_first, value_ascends, value_keys_only}
use Rattle.mst_list.proofs.Kept.{above_after, value_other}
use Rattle.mst_list.proofs.Laid.{kept, clear_of_guard}

-- a filled list round a key's place
pub record Around (holds : ℕ → List ℕ → List Item → Type 0) (k : List ℕ) (o : Option (List ℕ)) (G s : List Item) : Type 0 where
  pub first : List Item
  pub last : List Item
  pub is : s ≡ first ++ (with_value k o ++ last)
  pub low : AllBelow k first
  pub high : StartsAbove k last
  pub fills_first : Filled holds (before k G) first
  pub fills_last : Filled holds (after k G) last

pub around : (holds : ℕ → List ℕ → List Item → Type 0) (G s : List Item) (k : List ℕ) (o : Option (List ℕ)) → value_at k G ≡ o → (o ≡ None → IsClear k G) → Ascends G → Neighbours G → IsMap s → Filled holds G s → Around holds k o G s
around holds G s k o at clear up near m f =
    let A = before k G in let B = after k G in
    let whole : A ++ (with_value k o ++ B) ≡ G = rw (← at) (rebuilt k G) in
    let F : List Item → Type 0 = λ x. Filled holds x s in
    let p = filled_parts holds A (with_value k o ++ B) s (subst F (sym whole) f) in
    let q = filled_parts holds (with_value k o) B p.last p.fills_last in
    let a = p.first in let b = q.last in
    let e : s ≡ a ++ (with_value k o ++ b) = p.joined ∙ ap (λ x. a ++ x) (q.joined ∙ ap (λ x. x ++ b) (filled_value holds k o q.first q.fills_first)) in
    let M : List Item → Type 0 = λ x. IsMap x in
    let m' = subst M e m in
    let parts = is_below_parts a (with_value k o ++ b) m'.ascends in
    let ko = (keys_only_parts (with_value k o) b (keys_only_parts a (with_value k o ++ b) m'.keys_only).1).1 in
    let s = sides o refl a b parts.0 parts.1 parts.2 ko p.fills_first q.fills_last in
    record { first = a; last = b; is = e; low = s.0; high = s.1; fills_first = p.fills_first; fills_last = q.fills_last }
  where
    sides : (x : Option (List ℕ)) → o ≡ x → (a b : List Item) → Ascends a → IsBelow a (with_value k x ++ b) → Ascends (with_value k x ++ b) → KeysOnly b → Filled holds (before k G) a → Filled holds (after k G) b → AllBelow k a × StartsAbove k b
    sides None e a b u low v ko fa fb =
        let c = clear e in
        let N : List Item → Type 0 = λ x. Neighbours x in (
          below_filled holds k (before k G) a fa (below_before k G) (neighbours_first (before k G) (with_value k (value_at k G) ++ after k G) (subst N (sym (rebuilt k G)) near)) c.no_hole_before u,
          start_filled holds k (after k G) b fb (after_starts k G up c.no_hole_after),
        )
    sides (Some w) e a b u low v ko fa fb = (below_key k w a b low, starts_above k b ko v.0)

-- the filled list has the value that is visible, or none where nothing can hide it
pub value_filled_at : (holds : ℕ → List ℕ → List Item → Type 0) (k : List ℕ) (o : Option (List ℕ)) (G s : List Item) → Around holds k o G s → value_at k s ≡ o
value_filled_at holds k o G s r = ap (value_at k) r.is ∙ value_placed k o r.first r.last r.low r.high

pub put_filled : (holds : ℕ → List ℕ → List Item → Type 0) (k : List ℕ) (o was : Option (List ℕ)) (G s : List Item) → Around holds k o G s → Filled holds (put k was G) (put k was s)
put_filled holds k o was G s r =
    let a = r.first in let b = r.last in
    let same : put k was s ≡ a ++ (with_value k was ++ b) = rw (r.is, before_placed k o a b r.low r.high, after_placed k o a b r.low r.high) refl in
    let P : List Item → Type 0 = λ x. Filled holds (put k was G) x in
    subst P (sym same) (filled_join holds (before k G) (with_value k was ++ after k G) a (with_value k was ++ b) r.fills_first (filled_join holds (with_value k was) (after k G) (with_value k was) b (value_filled holds k was) r.fills_last))

-- maps
map_no_end : (A : List Item) → KeysOnly A → EndsInHole A → ⊥
map_no_end [] k h = h
map_no_end (Key j v ∷ []) k h = h
map_no_end (Key j v ∷ (x ∷ A)) k h = map_no_end (x ∷ A) k h
map_no_end (Hole l c ∷ A) k h = k

map_no_start : (B : List Item) → KeysOnly B → StartsWithHole B → ⊥
map_no_start [] k h = h
map_no_start (Key j v ∷ B) k h = h
map_no_start (Hole l c ∷ B) k h = k

pub record MapParts (k : List ℕ) (s : List Item) : Type 0 where
  pub no_end : EndsInHole (before k s) → ⊥
  pub starts : StartsAbove k (after k s)
  pub first_ascends : Ascends (before k s)
  pub last_ascends : Ascends (after k s)
  pub first_keys : KeysOnly (before k s)
  pub last_keys : KeysOnly (after k s)

pub map_round : (k : List ℕ) (s : List Item) → IsMap s → MapParts k s
map_round k s m =
    let A : List Item → Type 0 = λ x. Ascends x in let K : List Item → Type 0 = λ x. KeysOnly x in
    let x = with_value k (value_at k s) in
    let p = is_below_parts (before k s) (x ++ after k s) (subst A (sym (rebuilt k s)) m.ascends) in
    let q = keys_only_parts (before k s) (x ++ after k s) (subst K (sym (rebuilt k s)) m.keys_only) in
    let last = (keys_only_parts x (after k s) q.1).1 in
    record { no_end = map_no_end (before k s) q.0; starts = after_starts k s m.ascends (map_no_start (after k s) last); first_ascends = p.0; last_ascends = ascends_last x (after k s) p.2; first_keys = q.0; last_keys = last }

pub map_put : (k : List ℕ) (o : Option (List ℕ)) (s : List Item) → AreFormed (with_value k o) → IsMap s → IsMap (put k o s)
map_put k o s form m =
    let r = map_round k s m in
    let D : List Item → Type 0 = λ x. AreFormed x in
    record {
      formed = formed_edited k (value_at k s) o (before k s) (after k s) form (subst D (sym (rebuilt k s)) m.formed);
      ascends = value_ascends k o (before k s) (after k s) (below_before k s) (above_after k s m.ascends) r.first_ascends r.last_ascends;
      keys_only = keys_only_join (before k s) (with_value k o ++ after k s) r.first_keys (keys_only_join (with_value k o) (after k s) (value_keys_only k o) r.last_keys);
    }

pub value_put : (k : List ℕ) (o : Option (List ℕ)) (s : List Item) → IsMap s → value_at k (put k o s) ≡ o
value_put k o s m = value_placed k o (before k s) (after k s) (below_before k s) (map_round k s m).starts

pub put_back : (k : List ℕ) (o : Option (List ℕ)) (s : List Item) → IsMap s → put k (value_at k s) (put k o s) ≡ s
put_back k o s m =
    let r = map_round k s m in
    rw (before_placed k o (before k s) (after k s) (below_before k s) r.starts, after_placed k o (before k s) (after k s) (below_before k s) r.starts) (rebuilt k s)

pub value_put_other : (k j : List ℕ) (o : Option (List ℕ)) (s : List Item) → k ≢ j → IsMap s → value_at k (put j o s) ≡ value_at k s
value_put_other k j o s ne m =
    let r = map_round j s m in
    value_other k j (before j s) (after j s) o (value_at j s) (below_before j s) (above_after j s m.ascends) ne ∙ ap (value_at k) (rebuilt j s)

pub value_played : (k : List ℕ) (ops : List Op) (s t : List Item) → AreFormedOps ops → IsMap s → Plays s ops t → IsNewTo k ops → value_at k t ≡ value_at k s
value_played k [] s t forms m p new = ap (value_at k) p
value_played k (op ∷ ops) s t forms m p new =
    value_played k ops (put op.key op.now s) t forms.1 (map_put op.key op.now s (formed_value op.key op.now forms.0.0 forms.0.2) m) p.1 new.1
    ∙ value_put_other k op.key op.now s new.0 m

-- each operation left its value
abbrev pub AllLeft : List Item → List Op → Type 0
AllLeft t [] = Unit {0}
AllLeft t (op ∷ ops) = (value_at op.key t ≡ op.now) × AllLeft t ops

pub all_left : (ops : List Op) (s t : List Item) → AreFormedOps ops → AreApart ops → IsMap s → Plays s ops t → AllLeft t ops
all_left [] s t forms apart m p = tt
all_left (op ∷ ops) s t forms apart m p =
    let m' = map_put op.key op.now s (formed_value op.key op.now forms.0.0 forms.0.2) m in
    (value_played op.key ops (put op.key op.now s) t forms.1 m' p.1 apart.0 ∙ value_put op.key op.now s m, all_left ops (put op.key op.now s) t forms.1 apart.1 m' p.1)

-- a guarded list agrees with what fills it
pub agrees : (holds : ℕ → List ℕ → List Item → Type 0) (k : List ℕ) (was now : Option (List ℕ)) (F t : List Item) → Ascends F → Neighbours F → IsMap t → Filled holds F t → GuardedBy k was now F → value_at k t ≡ now → value_at k F ≡ now
agrees holds k was now F t up near m f guard left = go (value_at k F) refl
  where
    clear : (was now : Option (List ℕ)) → GuardedBy k was now F → value_at k F ≡ None → IsClear k F
    clear None now g e = g
    clear (Some v) None g e = g e
    clear (Some v) (Some w) g e = absurd (g e)

    go : (o : Option (List ℕ)) → value_at k F ≡ o → value_at k F ≡ now
    go None e = e ∙ sym (value_filled_at holds k None F t (around holds F t k None e (λ _. clear was now guard e) up near m f)) ∙ left
    go (Some v) e = e ∙ sym (value_filled_at holds k (Some v) F t (around holds F t k (Some v) e (λ (h : Some v ≡ None). absurd (cc)) up near m f)) ∙ left

pub all_agree : (holds : ℕ → List ℕ → List Item → Type 0) (F t : List Item) (ops : List Op) → IsWellLaid F → IsMap t → Filled holds F t → IsGuarded F ops → AllLeft t ops → AllAgree F ops
all_agree holds F t [] w m f guard left = tt
all_agree holds F t (op ∷ ops) w m f guard left = (agrees holds op.key op.was op.now F t w.ascends w.neighbours m f guard.0 left.0, all_agree holds F t ops w m f guard.1 left.1)

-- where t fills a guarded list and s plays to t, s fills the list with the operations undone
pub undone_filled : (holds : ℕ → List ℕ → List Item → Type 0) (F s t : List Item) (ops : List Op) → IsWellLaid F → AreFormedOps ops → AreApart ops → AllAgree F ops → IsGuarded F ops → IsMap s → Plays s ops t → Filled holds F t → Filled holds (undone F ops) s
undone_filled holds F s t [] w forms apart agree guard m p f = let P : List Item → Type 0 = λ x. Filled holds F x in subst P p f
undone_filled holds F s t (op ∷ ops) w forms apart agree guard m p f =
    let m' = map_put op.key op.now s (formed_value op.key op.now forms.0.0 forms.0.2) m in
    let more = undone_filled holds F (put op.key op.now s) t ops w forms.1 apart.1 agree.1 guard.1 m' p.1 f in
    let K = kept F ops w forms.1 apart.1 agree.1 guard.1 in
    let c = clear_of_guard op.key op.was op.now F agree.0 guard.0 in
    let r = around holds (undone F ops) (put op.key op.now s) op.key op.now (K.value op.key apart.0 ∙ agree.0) (λ e. K.clear op.key apart.0 (c.1 e)) K.well_laid.ascends K.well_laid.neighbours m' more in
    let back : put op.key op.was (put op.key op.now s) ≡ s = ap (λ o. put op.key o (put op.key op.now s)) (sym p.0) ∙ put_back op.key op.now s m in
    let P : List Item → Type 0 = λ x. Filled holds (undone F (op ∷ ops)) x in
    subst P back (put_filled holds op.key op.now op.was (undone F ops) (put op.key op.now s) r)

-- where s plays to t and t fills a guarded list, s fills the list with the operations undone, which is well laid
pub undone_by_play : (holds : ℕ → List ℕ → List Item → Type 0) (F s t : List Item) (ops : List Op) → IsWellLaid F → AreFormedOps ops → AreApart ops → IsGuarded F ops → IsMap s → IsMap t → Plays s ops t → Filled holds F t → IsWellLaid (undone F ops) × Filled holds (undone F ops) s
undone_by_play holds F s t ops w forms apart guard m mt p f =
    let agree = all_agree holds F t ops w mt f guard (all_left ops s t forms apart m p) in
    ((kept F ops w forms apart agree guard).well_laid, undone_filled holds F s t ops w forms apart agree guard m p f)
