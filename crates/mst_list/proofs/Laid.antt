-- A guarded edit leaves a list well laid.
use Rattle.std.proofs.Common.{◌≡◌, ◌≢◌, ℕ, List, [], ◌∷◌, ◌++◌, refl, sym, ap, ◌∙◌, subst, Option, Some, None}
use Rattle.mst_list.specs.declared.item.Item.{Item}
use Rattle.mst_list.specs.declared.item.Item.TheVariants.{Key, Hole}
use Rattle.mst_list.specs.declared.op.Op.{Op}
use Rattle.mst_list.specs.Lists.{Ascends, Neighbours, MayLead, MayMeet, NoHoleOf, HolesDiffer, NoLoneHole, AreFormed, IsMap, IsWellLaid}
use Rattle.mst_list.specs.Edits.{before, after, value_at, with_value, put, Filled, EndsInHole, StartsWithHole, IsClear, GuardedBy, IsGuarded, AllAgree, IsNewTo, AreApart, AreFormedOps, undone, Plays}
use Rattle.mst_list.proofs.Places.{StartsAbove, rebuilt, below_before}
use Rattle.mst_list.proofs.Fills.{ascends_last, is_below_parts, formed_parts, formed_value, formed_edited}
use Rattle.mst_list.proofs.Replay.{after_starts, value_ascends, played}
use Rattle.mst_list.proofs.Kept.{above_after, value_other, clear_other}

lead_same : (x : Item) (k v w : List ℕ) → MayMeet x (Key k v) → MayMeet x (Key k w)
lead_same (Key j u) k v w h = h
lead_same (Hole l c) k v w h = h

lead_on : (k v w : List ℕ) (B : List Item) → MayLead (Key k v) B → MayLead (Key k w) B
lead_on k v w [] h = h
lead_on k v w (Key j u ∷ B) h = h
lead_on k v w (Hole l c ∷ B) h = h

near_swapped : (k v w : List ℕ) (A B : List Item) → Neighbours (A ++ (Key k v ∷ B)) → Neighbours (A ++ (Key k w ∷ B))
near_swapped k v w [] B h = (lead_on k v w B h.0, h.1)
near_swapped k v w (x ∷ []) B h = (lead_same x k v w h.0, near_swapped k v w [] B h.1)
near_swapped k v w (x ∷ (y ∷ A)) B h = (h.0, near_swapped k v w (y ∷ A) B h.1)

lead_key : (k v : List ℕ) (B : List Item) → (StartsWithHole B → ⊥) → MayLead (Key k v) B
lead_key k v [] h = tt
lead_key k v (Key j u ∷ B) h = tt
lead_key k v (Hole l c ∷ B) h = absurd (h tt)

last_key : (x : Item) (k v : List ℕ) → (EndsInHole (x ∷ []) → ⊥) → MayMeet x (Key k v)
last_key (Key j u) k v h = tt
last_key (Hole l c) k v h = absurd (h tt)

last_lead : (x : Item) (B : List Item) → (EndsInHole (x ∷ []) → ⊥) → (StartsWithHole B → ⊥) → MayLead x B
last_lead (Key j u) B h g = lead_key j u B g
last_lead (Hole l c) B h g = absurd (h tt)

ends_more : (x : Item) (y : Item) (A : List Item) → (EndsInHole (x ∷ (y ∷ A)) → ⊥) → EndsInHole (y ∷ A) → ⊥
ends_more (Key j u) y A h = h
ends_more (Hole l c) y A h = h

near_put : (k v : List ℕ) (A B : List Item) → (EndsInHole A → ⊥) → (StartsWithHole B → ⊥) → Neighbours (A ++ B) → Neighbours (A ++ (Key k v ∷ B))
near_put k v [] B ends starts h = (lead_key k v B starts, h)
near_put k v (x ∷ []) B ends starts h = (last_key x k v ends, (lead_key k v B starts, h.1))
near_put k v (x ∷ (y ∷ A)) B ends starts h = (h.0, near_put k v (y ∷ A) B (ends_more x y A ends) starts h.1)

near_cut : (k v : List ℕ) (A B : List Item) → (EndsInHole A → ⊥) → (StartsWithHole B → ⊥) → Neighbours (A ++ (Key k v ∷ B)) → Neighbours (A ++ B)
near_cut k v [] B ends starts h = h.1
near_cut k v (x ∷ []) B ends starts h = (last_lead x B ends starts, h.1.1)
near_cut k v (x ∷ (y ∷ A)) B ends starts h = (h.0, near_cut k v (y ∷ A) B (ends_more x y A ends) starts h.1)

-- neighbours after an edit from one value to another
pub near_edited : (k : List ℕ) (was now : Option (List ℕ)) (A B : List Item) → (was ≡ None → (EndsInHole A → ⊥) × (StartsWithHole B → ⊥)) → (now ≡ None → (EndsInHole A → ⊥) × (StartsWithHole B → ⊥)) → Neighbours (A ++ (with_value k now ++ B)) → Neighbours (A ++ (with_value k was ++ B))
near_edited k None None A B p q h = h
near_edited k None (Some w) A B p q h = let c = p refl in near_cut k w A B c.0 c.1 h
near_edited k (Some v) None A B p q h = let c = q refl in near_put k v A B c.0 c.1 h
near_edited k (Some v) (Some w) A B p q h = near_swapped k w v A B h

-- holes
no_hole_value : (c k : List ℕ) (was now : Option (List ℕ)) (A B : List Item) → NoHoleOf c (A ++ (with_value k now ++ B)) → NoHoleOf c (A ++ (with_value k was ++ B))
no_hole_value c k None None [] B h = h
no_hole_value c k None (Some w) [] B h = h
no_hole_value c k (Some v) None [] B h = h
no_hole_value c k (Some v) (Some w) [] B h = h
no_hole_value c k was now (Key j u ∷ A) B h = no_hole_value c k was now A B h
no_hole_value c k was now (Hole l d ∷ A) B h = (h.0, no_hole_value c k was now A B h.1)

pub holes_edited : (k : List ℕ) (was now : Option (List ℕ)) (A B : List Item) → HolesDiffer (A ++ (with_value k now ++ B)) → HolesDiffer (A ++ (with_value k was ++ B))
holes_edited k None None [] B h = h
holes_edited k None (Some w) [] B h = h
holes_edited k (Some v) None [] B h = h
holes_edited k (Some v) (Some w) [] B h = h
holes_edited k was now (Key j u ∷ A) B h = holes_edited k was now A B h
holes_edited k was now (Hole l c ∷ A) B h = (no_hole_value c k was now A B h.0, holes_edited k was now A B h.1)

pub lone_edited : (k : List ℕ) (was : Option (List ℕ)) (A B : List Item) → (was ≡ None → (EndsInHole A → ⊥) × (StartsWithHole B → ⊥)) → NoLoneHole (A ++ (with_value k was ++ B))
lone_edited k (Some v) [] B p = tt
lone_edited k (Some v) (Key j u ∷ A) B p = tt
lone_edited k (Some v) (Hole l c ∷ []) B p = tt
lone_edited k (Some v) (Hole l c ∷ (x ∷ A)) B p = tt
lone_edited k None [] [] p = tt
lone_edited k None [] (Key j u ∷ B) p = tt
lone_edited k None [] (Hole l c ∷ B) p = absurd ((p refl).1 tt)
lone_edited k None (Key j u ∷ A) B p = tt
lone_edited k None (Hole l c ∷ []) B p = absurd ((p refl).0 tt)
lone_edited k None (Hole l c ∷ (x ∷ A)) B p = tt

-- what holds of a list after the edits
pub record IsKept (F : List Item) (ops : List Op) (G : List Item) : Type 0 where
  pub well_laid : IsWellLaid G
  pub value : (k : List ℕ) → IsNewTo k ops → value_at k G ≡ value_at k F
  pub clear : (k : List ℕ) → IsNewTo k ops → IsClear k F → IsClear k G

pub clear_of_guard : (k : List ℕ) (was now : Option (List ℕ)) (F : List Item) → value_at k F ≡ now → GuardedBy k was now F → (was ≡ None → IsClear k F) × (now ≡ None → IsClear k F)
clear_of_guard k None now F at g = (λ e. g, λ e. g)
clear_of_guard k (Some v) None F at g = (λ e. g at, λ e. g at)
clear_of_guard k (Some v) (Some w) F at g = (λ e. absurd (cc), λ e. absurd (cc))

-- an operation undone in a list leaves its order
reordered : (j : List ℕ) (was now : Option (List ℕ)) (G : List Item) → Ascends G → Neighbours G → value_at j G ≡ now → (was ≡ None → IsClear j G) → (now ≡ None → IsClear j G)
    → Ascends (put j was G) × Neighbours (put j was G) × ((k : List ℕ) → k ≢ j → value_at k (put j was G) ≡ value_at k G) × ((k : List ℕ) → k ≢ j → IsClear k G → IsClear k (put j was G))
reordered j was now G up near at p q =
    let A = before j G in let B = after j G in
    let whole : A ++ (with_value j now ++ B) ≡ G = rw (← at) (rebuilt j G) in
    let low = below_before j G in
    let high = above_after j G up in
    let U : List Item → Type 0 = λ x. Ascends x in
    let parts = is_below_parts A (with_value j now ++ B) (subst U (sym whole) up) in
    let p' : was ≡ None → (EndsInHole A → ⊥) × (StartsWithHole B → ⊥) = λ e. ((p e).no_hole_before, (p e).no_hole_after) in
    let q' : now ≡ None → (EndsInHole A → ⊥) × (StartsWithHole B → ⊥) = λ e. ((q e).no_hole_before, (q e).no_hole_after) in
    let cw : was ≡ None → (EndsInHole A → ⊥) × StartsAbove j B = λ e. ((p e).no_hole_before, after_starts j G up (p e).no_hole_after) in
    let cn : now ≡ None → (EndsInHole A → ⊥) × StartsAbove j B = λ e. ((q e).no_hole_before, after_starts j G up (q e).no_hole_after) in
    let N : List Item → Type 0 = λ x. Neighbours x in (
      value_ascends j was A B low high parts.0 (ascends_last (with_value j now) B parts.2),
      near_edited j was now A B p' q' (subst N (sym whole) near),
      λ k ne. value_other k j A B was now low high ne ∙ ap (value_at k) whole,
      λ k ne c. let C : List Item → Type 0 = λ x. IsClear k x in clear_other k j A B was now low high cw cn ne (subst C (sym whole) c),
    )

-- an operation undone in a well-laid list
pub edited : (j : List ℕ) (was now : Option (List ℕ)) (G : List Item) → AreFormed (with_value j was) → IsWellLaid G → value_at j G ≡ now → (was ≡ None → IsClear j G) → (now ≡ None → IsClear j G)
    → IsWellLaid (put j was G) × ((k : List ℕ) → k ≢ j → value_at k (put j was G) ≡ value_at k G) × ((k : List ℕ) → k ≢ j → IsClear k G → IsClear k (put j was G))
edited j was now G form w at p q =
    let E = reordered j was now G w.ascends w.neighbours at p q in
    let A = before j G in let B = after j G in
    let whole : A ++ (with_value j now ++ B) ≡ G = rw (← at) (rebuilt j G) in
    let H : List Item → Type 0 = λ x. HolesDiffer x in
    let D : List Item → Type 0 = λ x. AreFormed x in (
      record {
        formed = formed_edited j now was A B form (subst D (sym whole) w.formed);
        ascends = E.0;
        holes_differ = holes_edited j was now A B (subst H (sym whole) w.holes_differ);
        neighbours = E.1;
        no_lone_hole = lone_edited j was A B (λ e. ((p e).no_hole_before, (p e).no_hole_after));
      },
      E.2,
      E.3,
    )

pub kept : (F : List Item) (ops : List Op) → IsWellLaid F → AreFormedOps ops → AreApart ops → AllAgree F ops → IsGuarded F ops → IsKept F ops (undone F ops)
kept F [] w forms apart agree guard = record { well_laid = w; value = λ k h. refl; clear = λ k h c. c }
kept F (op ∷ ops) w forms apart agree guard =
    let K = kept F ops w forms.1 apart.1 agree.1 guard.1 in
    let c = clear_of_guard op.key op.was op.now F agree.0 guard.0 in
    let E = edited op.key op.was op.now (undone F ops) (formed_value op.key op.was forms.0.0 forms.0.1) K.well_laid (K.value op.key apart.0 ∙ agree.0) (λ e. K.clear op.key apart.0 (c.0 e)) (λ e. K.clear op.key apart.0 (c.1 e)) in
    record { well_laid = E.0; value = λ k h. E.1 k h.0 ∙ K.value k h.1; clear = λ k h g. E.2 k h.0 (K.clear k h.1 g) }

-- the order of a list after the edits
pub record IsOrdered (F : List Item) (ops : List Op) (G : List Item) : Type 0 where
  pub ascends : Ascends G
  pub neighbours : Neighbours G
  pub value : (k : List ℕ) → IsNewTo k ops → value_at k G ≡ value_at k F
  pub clear : (k : List ℕ) → IsNewTo k ops → IsClear k F → IsClear k G

pub ordered : (F : List Item) (ops : List Op) → Ascends F → Neighbours F → AreApart ops → AllAgree F ops → IsGuarded F ops → IsOrdered F ops (undone F ops)
ordered F [] up near apart agree guard = record { ascends = up; neighbours = near; value = λ k h. refl; clear = λ k h c. c }
ordered F (op ∷ ops) up near apart agree guard =
    let O = ordered F ops up near apart.1 agree.1 guard.1 in
    let c = clear_of_guard op.key op.was op.now F agree.0 guard.0 in
    let E = reordered op.key op.was op.now (undone F ops) O.ascends O.neighbours (O.value op.key apart.0 ∙ agree.0) (λ e. O.clear op.key apart.0 (c.0 e)) (λ e. O.clear op.key apart.0 (c.1 e)) in
    record { ascends = E.0; neighbours = E.1; value = λ k h. E.2 k h.0 ∙ O.value k h.1; clear = λ k h g. E.3 k h.0 (O.clear k h.1 g) }

-- a value that a list has is formed as the list is
formed_at : (k : List ℕ) (o : Option (List ℕ)) (F : List Item) → AreFormed F → value_at k F ≡ o → AreFormed (with_value k o)
formed_at k o F form at =
    let whole : before k F ++ (with_value k o ++ after k F) ≡ F = rw (← at) (rebuilt k F) in
    let D : List Item → Type 0 = λ x. AreFormed x in
    (formed_parts (with_value k o) (after k F) (formed_parts (before k F) (with_value k o ++ after k F) (subst D (sym whole) form)).1).0

-- the replay law, for whatever the holes may hold
pub record IsReplayed (holds : ℕ → List ℕ → List Item → Type 0) (F s : List Item) (ops : List Op) : Type 0 where
  pub result : List Item
  pub plays : Plays s ops result
  pub is_map : IsMap result
  pub fills : Filled holds F result

pub replayed : (holds : ℕ → List ℕ → List Item → Type 0) (F s : List Item) (ops : List Op) → IsWellLaid F → AreApart ops → AllAgree F ops → IsGuarded F ops → IsMap s → Filled holds (undone F ops) s → IsReplayed holds F s ops
replayed holds F s [] w apart agree guard m f = record { result = s; plays = refl; is_map = m; fills = f }
replayed holds F s (op ∷ ops) w apart agree guard m f =
    let O = ordered F ops w.ascends w.neighbours apart.1 agree.1 guard.1 in
    let c = clear_of_guard op.key op.was op.now F agree.0 guard.0 in
    let P = played holds (undone F ops) s op.key op.was op.now (formed_at op.key op.now F w.formed agree.0) O.ascends O.neighbours (O.value op.key apart.0 ∙ agree.0) (λ e. O.clear op.key apart.0 (c.0 e)) m f in
    let R = replayed holds F (put op.key op.now s) ops w apart.1 agree.1 guard.1 P.is_map P.fills in
    record { result = R.result; plays = (P.agrees, R.plays); is_map = R.is_map; fills = R.fills }
