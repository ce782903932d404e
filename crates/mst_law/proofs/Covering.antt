-- Where the blocks on the ways are there, there is a guarded view.
use Rattle.std.proofs.Common.{◌≡◌, ◌≢◌, ℕ, ◌<◌, List, [], ◌∷◌, ◌++◌, length, refl, sym, ap, ◌∙◌, subst, Option, Some, None, inl, inr, arith, Less, Equal, append-nil}
use Rattle.std.specs.FinMap as map
use Rattle.std.specs.FinMap.{FinMap}
use Rattle.sha2.specs.Sha256.{sha256}
use Rattle.at_cid.specs.Link.{IsNodeLink}
use Rattle.at_cid.specs.Order.{key_cmp}
use Rattle.at_cid.proofs.Bytes.{cid_is_link}
use Rattle.at_cid.proofs.Order.{cmp_same}
use Rattle.mst_list.specs.Edits.{AreApart, AreFormedOps, EndsInHole, Filled, GuardedBy, IsClear, IsGuarded, Plays, StartsWithHole, after, before, by_order, put, undone, value_at, with_value}
use Rattle.mst_list.specs.Lists.{AllAbove, AreFormed, Ascends, IsMap, IsWellLaid, KeysOnly, NoLoneHole}
use Rattle.mst_list.specs.declared.item.Item.{Item}
use Rattle.mst_list.specs.declared.item.Item.TheVariants.{Hole, Key}
use Rattle.mst_list.specs.declared.op.Op.{Op}
use Rattle.mst_list.proofs.Fills.{all_above_parts, all_above_up, formed_parts, formed_value, is_below_parts}
use Rattle.mst_list.proofs.Judged.{beside, hidden}
use Rattle.mst_list.proofs.Kept.{above_after, no_value, value_back, value_front}
use Rattle.mst_list.proofs.Places.{AllBelow, after_placed, before_placed, below_before, rebuilt}
use Rattle.mst_list.proofs.Puts.{visible}
use Rattle.mst_list.proofs.Replay.{all_below_up}
use Rattle.mst_list.proofs.Undo.{AllLeft, all_agree, all_left, around, map_put, undone_by_play, value_filled_at}
use Rattle.mst_node.specs.Covers.{AreDistinct, AreUnderNodeLinks, HoldsCover, IsInCoverOf, IsOnWay, IsOnWayTo, IsThere, bound_at, first_key, last_key, part_encoded, right_encoded, encoded_blocks}
use Rattle.mst_node.specs.Trees.{AllThere, Distinct, HoldsNode, HolesUnder, IsAmong, IsView, first_part, nodes, nodes_at, root, encode_layer, top_layer}
use Rattle.mst_node.proofs.Filling.{one_root, top_alike}
use Rattle.mst_node.proofs.Layers.{keys_under_top, top_at_most}
use Rattle.mst_law.specs.Laws.{IsCoveredBy, IsStep}
use Rattle.mst_law.proofs.Known.{HolesKnown, no_gap_hole, no_hole_next, node_known, one_first, one_last, parts_known}
use Rattle.mst_law.proofs.Pruned.{HasKey, above_of, has_first, has_last, node_pruned, parts_pruned, pruned_node}

-- a list that is filled by an ascending map
above_of_filled : (j : List ℕ) (F s : List Item) → Filled HoldsNode F s → AllAbove j s → AllAbove j F
above_of_filled j [] s f a = tt
above_of_filled j (Key k v ∷ F) s f a = let R : List Item → Type 0 = λ x. AllAbove j x in let a' = subst R f.1 a in (a'.0, above_of_filled j F f.0 f.2 a'.1)
above_of_filled j (Hole l c ∷ F) s f a = let R : List Item → Type 0 = λ x. AllAbove j x in above_of_filled j F f.1 f.4 (all_above_parts j f.0 f.1 (subst R f.2 a)).1

filled_ascends : (F s : List Item) → Filled HoldsNode F s → Ascends s → Ascends F
filled_ascends [] s f u = tt
filled_ascends (Key k v ∷ F) s f u = let R : List Item → Type 0 = λ x. Ascends x in let u' = subst R f.1 u in (above_of_filled k F f.0 f.2 u'.0, filled_ascends F f.0 f.2 u'.1)
filled_ascends (Hole l c ∷ F) s f u = let R : List Item → Type 0 = λ x. Ascends x in filled_ascends F f.1 f.4 (is_below_parts f.0 f.1 (subst R f.2 u)).2

filled_formed : (F s : List Item) → Filled HoldsNode F s → AreFormed s → AreFormed F
filled_formed [] s f u = tt
filled_formed (Key k v ∷ F) s f u = let R : List Item → Type 0 = λ x. AreFormed x in let u' = subst R f.1 u in (u'.0, filled_formed F f.0 f.2 u'.1)
filled_formed (Hole l c ∷ F) s f u =
    let R : List Item → Type 0 = λ x. AreFormed x in let L : List ℕ → Type 0 = λ x. IsNodeLink x in
    (subst L f.3.encoded (cid_is_link (encode_layer l f.0)), filled_formed F f.1 f.4 (formed_parts f.0 f.1 (subst R f.2 u)).1)

not_alone : (F t : List Item) → Filled HoldsNode F t → HolesUnder (top_layer t) F → NoLoneHole F
not_alone [] t f h = tt
not_alone (Key k v ∷ F) t f h = tt
not_alone (Hole l c ∷ (x ∷ F)) t f h = tt
not_alone (Hole l c ∷ []) t f h =
    let same : t ≡ f.0 = f.2 ∙ ap (λ x. f.0 ++ x) f.4 ∙ append-nil f.0 in
    let low = top_at_most f.0 l f.3.up_to in let e = ap top_layer same in let under = h.0 in omega arith

-- a key of a map has a value
has_value : (p : List ℕ) (s : List Item) → Ascends s → HasKey p s → value_at p s ≢ None
has_value p [] u h = absurd h
has_value p (Hole l c ∷ s) u h = has_value p s u h
has_value p (Key j v ∷ s) u (inl e) = let same = cmp_same p in λ n. none (rw (← e) same) n
  where
    none : key_cmp j p ≡ Equal → by_order (key_cmp j p) (value_at p s) (Some v) None ≡ None → ⊥
    none d n = absurd (cc)
has_value p (Key j v ∷ s) u (inr h) = let more = has_value p s u.1 h in let less = above_of j p s u.0 h in λ n. more (below less n)
  where
    below : key_cmp j p ≡ Less → by_order (key_cmp j p) (value_at p s) (Some v) None ≡ None → value_at p s ≡ None
    below d n = rw d at n

below_of : (p k : List ℕ) (a : List Item) → AllBelow k a → HasKey p a → key_cmp p k ≡ Less
below_of p k (Key j v ∷ a) low (inl e) = rw e low.0
below_of p k (Key j v ∷ a) low (inr h) = below_of p k a low.1 h
below_of p k (Hole l c ∷ a) low h = below_of p k a low h
below_of p k [] low h = absurd h

-- behind the last visible key a hole hides the last key
record LastHidden (A a : List Item) : Type 0 where
  key : List ℕ
  is : last_key a ≡ Some key
  inside : HasKey key a
  hidden : value_at key A ≡ None

record LastOf (g : List Item) : Type 0 where
  key : List ℕ
  is : last_key g ≡ Some key
  inside : HasKey key g

last_of : (g : List Item) → KeysOnly g → 0 < length g → LastOf g
last_of [] k n = absurd (omega arith)
last_of (Hole l c ∷ g) k n = absurd k
last_of (Key j v ∷ []) k n = record { key = j; is = refl; inside = inl refl }
last_of (Key j v ∷ (Key i w ∷ g)) k n = let r = last_of (Key i w ∷ g) k (omega arith) in record { key = r.key; is = r.is; inside = inr r.inside }
last_of (Key j v ∷ (Hole l c ∷ g)) k n = absurd k

last_joined : (g t : List Item) (p : List ℕ) → last_key t ≡ Some p → last_key (g ++ t) ≡ Some p
last_joined [] t p e = e
last_joined (x ∷ []) [] p e = absurd (cc)
last_joined (Key j v ∷ []) (y ∷ t) p e = e
last_joined (Hole l c ∷ []) (y ∷ t) p e = e
last_joined (Key j v ∷ (y ∷ g)) t p e = last_joined (y ∷ g) t p e
last_joined (Hole l c ∷ (y ∷ g)) t p e = last_joined (y ∷ g) t p e

last_hidden : (A a : List Item) → Filled HoldsNode A a → EndsInHole A → Ascends a → LastHidden A a
last_hidden [] a f ends u = absurd ends
last_hidden (Key j v ∷ []) a f ends u = absurd ends
last_hidden (Hole l c ∷ []) a f ends u =
    let same : a ≡ f.0 = f.2 ∙ ap (λ x. f.0 ++ x) f.4 ∙ append-nil f.0 in
    let r = last_of f.0 f.3.is_map.keys_only f.3.some in
    let R : List Item → Type 0 = λ x. HasKey r.key x in
    record { key = r.key; is = ap last_key same ∙ r.is; inside = subst R (sym same) r.inside; hidden = refl }
last_hidden (Key j v ∷ (y ∷ A)) a f ends u =
    let U : List Item → Type 0 = λ x. Ascends x in let u' = subst U f.1 u in
    let r = last_hidden (y ∷ A) f.0 f.2 ends u'.1 in
    let R : List Item → Type 0 = λ x. HasKey r.key x in
    let less = above_of j r.key f.0 u'.0 r.inside in
    record { key = r.key; is = ap last_key f.1 ∙ last_joined (Key j v ∷ []) f.0 r.key r.is; inside = subst R (sym f.1) (inr r.inside); hidden = rw less r.hidden }
last_hidden (Hole l c ∷ (y ∷ A)) a f ends u =
    let U : List Item → Type 0 = λ x. Ascends x in let u' = (is_below_parts f.0 f.1 (subst U f.2 u)).2 in
    let r = last_hidden (y ∷ A) f.1 f.4 ends u' in
    let R : List Item → Type 0 = λ x. HasKey r.key x in
    record { key = r.key; is = ap last_key f.2 ∙ last_joined f.0 f.1 r.key r.is; inside = subst R (sym f.2) (has_last r.key f.0 f.1 r.inside); hidden = r.hidden }

-- before the first visible key a hole hides the first key
record FirstHidden (A a : List Item) : Type 0 where
  key : List ℕ
  is : first_key a ≡ Some key
  inside : HasKey key a
  hidden : value_at key A ≡ None

first_hidden : (A a : List Item) → Filled HoldsNode A a → StartsWithHole A → Ascends a → FirstHidden A a
first_hidden [] a f starts u = absurd starts
first_hidden (Key j v ∷ A) a f starts u = absurd starts
first_hidden (Hole l c ∷ A) a f starts u = go f.0 f.3.is_map.keys_only f.3.some f.2
  where
    go : (g : List Item) → KeysOnly g → 0 < length g → a ≡ g ++ f.1 → FirstHidden (Hole l c ∷ A) a
    go [] k n e = absurd (omega arith)
    go (Hole m d ∷ g) k n e = absurd k
    go (Key j v ∷ g) k n e =
        let U : List Item → Type 0 = λ x. Ascends x in let u' = subst U e u in
        let R : List Item → Type 0 = λ x. HasKey j x in
        record { key = j; is = ap first_key e; inside = subst R (sym e) (inl refl); hidden = no_value j A (above_of_filled j A f.1 f.4 (all_above_parts j g f.1 u'.0).1) }

-- a map is played to a map
pub map_played : (ops : List Op) (s t : List Item) → AreFormedOps ops → IsMap s → Plays s ops t → IsMap t
map_played [] s t forms m p = let R : List Item → Type 0 = λ x. IsMap x in subst R (sym p) m
map_played (op ∷ ops) s t forms m p = map_played ops (put op.key op.now s) t forms.1 (map_put op.key op.now s (formed_value op.key op.now forms.0.0 forms.0.2) m) p.1

-- each block on the way to a key is there
abbrev HoldsWay : FinMap key_cmp (List ℕ) → List Item → List ℕ → Type 0
HoldsWay B t k = (b : List ℕ) → IsOnWay t k b → IsThere B b

abbrev HoldsWayTo : FinMap key_cmp (List ℕ) → List Item → Option (List ℕ) → Type 0
HoldsWayTo B t o = (b : List ℕ) → IsOnWayTo t o b → IsThere B b

-- what is known of a view
module _ (B : FinMap key_cmp (List ℕ)) (F t : List Item) (w : IsWellLaid F) (mt : IsMap t) (f : Filled HoldsNode F t) (known : HolesKnown B (encoded_blocks t) None None F) where
  gap_clear : (k : List ℕ) → HoldsWay B t k → value_at k F ≡ None → IsClear k F
  gap_clear k held none = record { no_hole_before = no_gap_hole B (encoded_blocks t) k None None F (λ e i over under. held e.block (e, i, over, under, refl)) known tt tt none; no_hole_after = no_hole_next k F none }

  -- a key of the map whose way is held is visible
  seen : (k : List ℕ) → HoldsWay B t k → value_at k t ≢ None → value_at k F ≢ None
  seen k held some none = some (value_filled_at HoldsNode k None F t (around HoldsNode F t k None none (λ e. gap_clear k held none) w.ascends w.neighbours mt f))

  -- beside a created key stands no hole
  create_clear : (k v : List ℕ) → value_at k F ≡ Some v → HoldsWayTo B t (last_key (before k t)) × HoldsWayTo B t (first_key (after k t)) → IsClear k F
  create_clear k v at ways =
      let r = around HoldsNode F t k (Some v) at (λ e. absurd (cc)) w.ascends w.neighbours mt f in
      let a = r.first in let b = r.last in
      let front : before k t ≡ a = ap (before k) r.is ∙ before_placed k (Some v) a b r.low r.high in
      let back : after k t ≡ b = ap (after k) r.is ∙ after_placed k (Some v) a b r.low r.high in
      let U : List Item → Type 0 = λ x. Ascends x in
      let parts = is_below_parts a (Key k v ∷ b) (subst U r.is mt.ascends) in
      let whole : F ≡ before k F ++ (Key k v ∷ after k F) = sym (rebuilt k F) ∙ ap (λ o. before k F ++ (with_value k o ++ after k F)) at in
      record {
        no_hole_before = λ ends.
            let h = last_hidden (before k F) a r.fills_first ends parts.0 in
            let W : Option (List ℕ) → Type 0 = λ o. HoldsWayTo B t o in
            let held : HoldsWay B t h.key = subst W (ap last_key front ∙ h.is) ways.0 in
            let K : List Item → Type 0 = λ x. HasKey h.key x in
            let some = has_value h.key t mt.ascends (subst K (sym r.is) (has_first h.key a (Key k v ∷ b) h.inside)) in
            let less = below_of h.key k a r.low h.inside in
            let up : AllAbove h.key (Key k v ∷ after k F) = (less, all_above_up h.key k (after k F) less (above_after k F w.ascends)) in
            seen h.key held some (ap (value_at h.key) whole ∙ value_front h.key (before k F) (Key k v ∷ after k F) up ∙ h.hidden);
        no_hole_after = λ starts.
            let h = first_hidden (after k F) b r.fills_last starts parts.2.1 in
            let W : Option (List ℕ) → Type 0 = λ o. HoldsWayTo B t o in
            let held : HoldsWay B t h.key = subst W (ap first_key back ∙ h.is) ways.1 in
            let K : List Item → Type 0 = λ x. HasKey h.key x in
            let some = has_value h.key t mt.ascends (subst K (sym r.is) (has_last h.key a (Key k v ∷ b) (inr h.inside))) in
            let less = above_of k h.key b parts.2.0 h.inside in
            seen h.key held some (ap (value_at h.key) whole ∙ value_back h.key (before k F) (Key k v ∷ after k F) (all_below_up k h.key (before k F) less (below_before k F)) ∙ past h.key v less h.hidden);
      }
    where
      past : (p v : List ℕ) → key_cmp k p ≡ Less → value_at p (after k F) ≡ None → value_at p (Key k v ∷ after k F) ≡ None
      past p v e n = rw e n

  guard : (k : List ℕ) (was now : Option (List ℕ)) → HoldsWay B t k → (was ≡ None → HoldsWayTo B t (last_key (before k t)) × HoldsWayTo B t (first_key (after k t))) → value_at k t ≡ now → GuardedBy k was now F
  guard k (Some v) (Some x) held ways left = seen k held (λ n. absurd (cc))
  guard k (Some v) None held ways left = λ none. gap_clear k held none
  guard k None now held ways left = go (value_at k F) refl
    where
      go : (o : Option (List ℕ)) → value_at k F ≡ o → IsClear k F
      go None e = gap_clear k held e
      go (Some v) e = create_clear k v e (ways refl)

  pub all_guarded : (ops : List Op) → HoldsCover B t ops → AllLeft t ops → IsGuarded F ops
  all_guarded [] c left = tt
  all_guarded (op ∷ ops) c left =
      let own : (b : List ℕ) → IsInCoverOf t op b → IsThere B b = λ b i. c b (inl i) in
      (guard op.key op.was op.now (λ b i. own b (inl i)) (λ new. (λ b i. own b (inr (new, inl i)), λ b i. own b (inr (new, inr i)))) left.0, all_guarded ops (λ b i. c b (inr i)) left.1)

-- a view of the tree with what is there
pub record HasView (B : FinMap key_cmp (List ℕ)) (t : List Item) : Type 0 where
  pub list : List Item
  pub is_view : IsView B (root t) list
  pub filled : Filled HoldsNode list t
  pub known : HolesKnown B (encoded_blocks t) None None list

pub has_view : (B : FinMap key_cmp (List ℕ)) (t : List Item) → IsMap t → AreUnderNodeLinks B → AreDistinct B t → IsThere B (encode_layer (top_layer t) t) → HasView B t
has_view B t m under distinct at =
    let S = nodes t in let T = encoded_blocks t in let h = top_layer t in
    let d : Distinct S = λ a b i j e. distinct a b (inr i) (inr j) e in
    let alike : (c b a : List ℕ) → IsNodeLink c → map.get B c ≡ Some b → IsAmong a S → sha256 b ≡ sha256 a → b ≡ a = λ c b a n g i e. distinct b a (inl (c, n, g)) (inr i) e in
    let F = pruned_node S d B under alike h t in
    let N = node_pruned S d B under alike h (parts_pruned S d B under alike h) t m (keys_under_top t h (omega arith)) (λ b i. i) at in
    let K = node_known S d B under alike T h (parts_known S d B under alike T h) None None t m.keys_only
    (λ e i. inr (one_first e (part_encoded h None (bound_at h None t) (first_part h t)) (right_encoded (part_encoded h) h None t) i))
    (λ e i. inr (one_last e (part_encoded h None (bound_at h None t) (first_part h t)) (right_encoded (part_encoded h) h None t) i)) in
    let w : IsWellLaid F = record { formed = filled_formed F t N.filled m.formed; ascends = filled_ascends F t N.filled m.ascends; holes_differ = N.differ; neighbours = N.near; no_lone_hole = not_alone F t N.filled N.holes } in
    let top = top_alike F t w N.filled in
    let W : ℕ → Type 0 = λ n. AllThere B (nodes_at n F) in
    record { list = F; is_view = record { well_laid = w; root_is = sym (one_root F t w N.filled); there = subst W top N.there; holes = N.missing }; filled = N.filled; known = K }

-- the covering law
pub covered : (B : FinMap key_cmp (List ℕ)) (s t : List Item) (op : Op) (ops : List Op) → IsMap s → AreFormedOps (op ∷ ops) → AreApart (op ∷ ops) → Plays s (op ∷ ops) t → HoldsCover B t (op ∷ ops) → AreUnderNodeLinks B → AreDistinct B t → (F : List Item) × IsCoveredBy B s t (op ∷ ops) F
covered B s t op ops m forms apart plays cover under distinct =
    let mt = map_played (op ∷ ops) s t forms m plays in
    let V = has_view B t mt under distinct (cover (encode_layer (top_layer t) t) (inl (inl (record { low = None; high = None; block = encode_layer (top_layer t) t }, inl refl, tt, tt, refl)))) in
    let left = all_left (op ∷ ops) s t forms apart m plays in
    let guard = all_guarded B V.list t V.is_view.well_laid mt V.filled V.known (op ∷ ops) cover left in
    let back = undone_by_play HoldsNode V.list s t (op ∷ ops) V.is_view.well_laid forms apart guard m mt plays V.filled in
    let step : IsStep B (root s) (root t) (op ∷ ops) V.list = record {
      is_view = V.is_view;
      agrees = all_agree HoldsNode V.list t (op ∷ ops) V.is_view.well_laid mt V.filled guard left;
      guarded = guard;
      leads_back = sym (one_root (undone V.list (op ∷ ops)) s back.0 back.1);
    } in
    (V.list, record { step = step; fills = record { is_map = mt; filled = V.filled } })
