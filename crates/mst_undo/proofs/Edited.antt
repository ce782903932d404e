-- One operation undone in a node.
use Rattle.std.proofs.Common.{◌≡◌, ℕ, suc, List, [], ◌∷◌, ◌++◌, get_or, set, drop, sym, ap, ◌∙◌, subst, Equal, Option, Some, None, arith, append_assoc, drop-cons, take, ◌+◌, zero, refl, false}
use Rattle.std.specs.List.{insert, remove}
use Rattle.at_cid.specs.Order.{key_cmp}
use Rattle.at_cid.proofs.Order.{cmp_same}
use Rattle.mst_list.specs.declared.item.Item.{Item}
use Rattle.mst_list.specs.declared.item.Item.TheVariants.{Key}
use Rattle.mst_list.specs.declared.op.Op.{Op}
use Rattle.mst_list.specs.Lists.{Ascends, Neighbours}
use Rattle.mst_list.specs.Edits.{before, after, value_at, with_value, put, EndsInHole}
use Rattle.mst_list.specs.Faults.{clear_behind}
use Rattle.mst_list.proofs.Places.{AllBelow}
use Rattle.mst_list.proofs.Fills.{is_below_parts, ascends_last}
use Rattle.mst_list.proofs.Kept.{before_back, after_back, value_back}
use Rattle.mst_list.proofs.Replay.{ends_tail, neighbours_first}
use Rattle.mst_node.proofs.Cuts.{near_last}
use Rattle.mst_view.specs.Layered.{below_items, rest_items}
use Rattle.mst_view.specs.declared.branch.Below.{Below}
use Rattle.mst_view.specs.declared.branch.Part.{Part}
use Rattle.mst_undo.specs.Cuts.{IsBelow, IsCut, ends_behind}
use Rattle.mst_undo.specs.Gaps.{node_items, gap_at, IsFilled, IsGapOf, IsKeyAt}
use Rattle.mst_undo.specs.Undoing.{IsSafe}
use Rattle.mst_undo.proofs.Places.{StartsOver, before_stop, after_stop, cut_equal, IsCutAt}
use Rattle.mst_undo.proofs.Searches.{clear_skip, clear_stop, ends_key, value_stop}
use Rattle.mst_undo.proofs.Nodes.{front, gap_items, take_items, front_without, drop_without, filled_items, filled_length, filled_front, filled_gap, filled_rest, insert_items, key_items, set_items, without_items, gap_without, length_without, gap_in_range, gap_low, gap_over, key_in_range, key_is}

-- a list round the gap of k, in which D lies
record IsRound (k : List ℕ) (F X D G : List Item) : Type 0 where
  pub is : F ≡ X ++ (D ++ G)
  pub low : AllBelow k X
  pub over : StartsOver k G

put_back : (k : List ℕ) (o : Option (List ℕ)) (A Y : List Item) → AllBelow k A → put k o (A ++ Y) ≡ A ++ put k o Y
put_back k o A Y h = rw (before_back k A Y h, after_back k A Y h) (append_assoc A (before k Y) (with_value k o ++ after k Y))

regrouped : (B W A G : List Item) → (B ++ (W ++ A)) ++ G ≡ B ++ (W ++ (A ++ G))
regrouped B W A G = simp append_assoc

put_stop : (k : List ℕ) (o : Option (List ℕ)) (A G : List Item) → StartsOver k G → put k o (A ++ G) ≡ put k o A ++ G
put_stop k o A G s =
    ap (λ x. x ++ (with_value k o ++ after k (A ++ G))) (before_stop k A G s) ∙ ap (λ x. before k A ++ (with_value k o ++ x)) (after_stop k A G s) ∙ sym (regrouped (before k A) (with_value k o) (after k A) G)

ends_last : (X B : List Item) → EndsInHole B → EndsInHole (X ++ B)
ends_last [] B h = h
ends_last (x ∷ X) B h = ends_tail x (X ++ B) (ends_last X B h)

module _ (k : List ℕ) (F X D G : List Item) (r : IsRound k F X D G) where
  before_round : before k F ≡ X ++ before k D
  before_round = ap (before k) r.is ∙ before_back k X (D ++ G) r.low ∙ ap (λ Y. X ++ Y) (before_stop k D G r.over)

  after_round : after k F ≡ after k D ++ G
  after_round = ap (after k) r.is ∙ after_back k X (D ++ G) r.low ∙ after_stop k D G r.over

  value_round : value_at k F ≡ value_at k D
  value_round = ap (value_at k) r.is ∙ value_back k X (D ++ G) r.low ∙ value_stop k D G r.over

  put_round : (o : Option (List ℕ)) → put k o F ≡ X ++ (put k o D ++ G)
  put_round o = ap (put k o) r.is ∙ put_back k o X (D ++ G) r.low ∙ ap (λ Y. X ++ Y) (put_stop k o D G r.over)

  ascends_round : Ascends F → Ascends D
  ascends_round up = let U : List Item → Type 0 = λ x. Ascends x in (is_below_parts D G (ascends_last X (D ++ G) (subst U r.is up))).0

-- what can be undone in a list can in the gap of the key
safe_round : (op : Op) (F X D G : List Item) → IsRound op.key F X D G → IsSafe F op → IsSafe D op
safe_round op F X D G r s =
    let N : List Item → Type 0 = λ x. Neighbours x in let E : List Item → Type 0 = λ x. EndsInHole x in
    record {
      ascends = ascends_round op.key F X D G r s.ascends;
      agrees = sym (value_round op.key F X D G r) ∙ s.agrees;
      clear = λ none h. s.clear none (subst E (sym (before_round op.key F X D G r)) (ends_last X (before op.key D) h));
      near = neighbours_first (put op.key op.was D) G (near_last X (put op.key op.was D ++ G) (subst N (put_round op.key F X D G r op.was) s.near));
    }

-- a key stands before a gap, or nothing
front_ends : (h n : ℕ) (f : Below) (ps : List Part) → ends_behind false (front h n f ps) ≡ false
front_ends h zero f ps = refl
front_ends h (suc n) f [] = refl
front_ends h (suc n) f (p ∷ ps) = ends_key false (below_items h f) p.key p.value (front h n p.below ps) ∙ front_ends h n p.below ps

-- the gap of a key in a node, and b in it
module _ (h : ℕ) (k : List ℕ) (n : ℕ) (f : Below) (ps : List Part) (g : IsGapOf k n ps) (up : Ascends (node_items h f ps)) (b : Below) (lies : b ≡ gap_at n f ps) where
  gap_round : IsRound k (node_items h f ps) (front h n f ps) (below_items h b) (rest_items h (drop n ps))
  gap_round =
      let R : Below → Type 0 = λ x. IsRound k (node_items h f ps) (front h n f ps) (below_items h x) (rest_items h (drop n ps)) in
      subst R (sym lies) (record { is = gap_items h n f ps (gap_in_range k n ps g); low = gap_low h k n f ps g up; over = gap_over h k n ps g })

  pub gap_ascends : Ascends (below_items h b)
  gap_ascends = ascends_round k (node_items h f ps) (front h n f ps) (below_items h b) (rest_items h (drop n ps)) gap_round up

  pub gap_value : value_at k (node_items h f ps) ≡ value_at k (below_items h b)
  gap_value = value_round k (node_items h f ps) (front h n f ps) (below_items h b) (rest_items h (drop n ps)) gap_round

  -- whether a hole stands beside the key
  pub gap_clear : clear_behind false k (node_items h f ps) ≡ clear_behind false k (below_items h b)
  gap_clear =
      let X = front h n f ps in let D = below_items h b in let G = rest_items h (drop n ps) in
      ap (clear_behind false k) gap_round.is ∙ clear_skip false k X (D ++ G) gap_round.low ∙ ap (λ e. clear_behind e k (D ++ G)) (front_ends h n f ps) ∙ clear_stop false k D G gap_round.over

  -- with an edit in the gap
  pub edited_items : (o : Option (List ℕ)) (y x f' : Below) (ps' : List Part) (f'' : Below) (ps'' : List Part) → IsFilled n y f ps f' ps' → IsFilled n x f' ps' f'' ps'' → IsBelow h (put k o (below_items h b)) x
      → node_items h f'' ps'' ≡ put k o (node_items h f ps)
  edited_items o y x f' ps' f'' ps'' one two made =
      filled_items h n y x f ps f' ps' f'' ps'' (gap_in_range k n ps g) one two ∙ ap (λ F. front h n f ps ++ (F ++ rest_items h (drop n ps))) made.items
      ∙ sym (put_round k (node_items h f ps) (front h n f ps) (below_items h b) (rest_items h (drop n ps)) gap_round o)

  -- cut at the key
  pub cut_items : (y x z f' : Below) (ps' : List Part) (f'' : Below) (ps'' L R : List Part) (left right : Below) → IsFilled n y f ps f' ps' → IsFilled n x f' ps' f'' ps'' → IsCut h k (below_items h b) x z
      → L ≡ take n ps'' → R ≡ drop n ps'' → IsBelow (h + 1) (node_items h f'' L) left → IsBelow (h + 1) (node_items h z R) right → IsCut (h + 1) k (node_items h f ps) left right
  cut_items y x z f' ps' f'' ps'' L R left right one two cut lower upper a c =
      let low = gap_in_range k n ps g in let long = filled_length h n y f ps f' ps' one in let long' = filled_length h n x f' ps' f'' ps'' two in
      let X = front h n f ps in let G = rest_items h (drop n ps) in let D = below_items h b in
      record {
        left_lies = a.lies;
        right_lies = c.lies;
        left = a.items ∙ ap (node_items h f'') lower ∙ take_items h n f'' ps'' (omega arith)
            ∙ ap (λ F. F ++ below_items h (gap_at n f'' ps'')) (filled_front h n x f' ps' f'' ps'' two ∙ filled_front h n y f ps f' ps' one)
            ∙ ap (λ w. X ++ below_items h w) (filled_gap h n x f' ps' f'' ps'' two (omega arith)) ∙ ap (λ w. X ++ w) cut.left ∙ sym (before_round k (node_items h f ps) X D G gap_round);
        right = c.items ∙ ap (λ w. below_items h z ++ rest_items h w) (upper ∙ filled_rest h n x f' ps' f'' ps'' two ∙ filled_rest h n y f ps f' ps' one)
            ∙ ap (λ w. w ++ G) cut.right ∙ sym (after_round k (node_items h f ps) X D G gap_round);
      }

  -- with the key in the gap
  pub inserted_items : (v : List ℕ) (y x z f' : Below) (ps' : List Part) (f'' : Below) (ps'' : List Part) (p : Part) (rs : List Part) → IsFilled n y f ps f' ps' → IsFilled n x f' ps' f'' ps'' → IsCut h k (below_items h b) x z
      → p.key ≡ k → p.value ≡ v → p.below ≡ z → rs ≡ insert ps'' n p → node_items h f'' rs ≡ put k (Some v) (node_items h f ps)
  inserted_items v y x z f' ps' f'' ps'' p rs one two cut same value behind is =
      let low = gap_in_range k n ps g in let long = filled_length h n y f ps f' ps' one in let long' = filled_length h n x f' ps' f'' ps'' two in
      let X = front h n f ps in let G = rest_items h (drop n ps) in let D = below_items h b in
      ap (node_items h f'') is ∙ insert_items h n f'' ps'' p (omega arith)
      ∙ ap (λ F. F ++ (below_items h (gap_at n f'' ps'') ++ (Key p.key p.value ∷ (below_items h p.below ++ rest_items h (drop n ps''))))) (filled_front h n x f' ps' f'' ps'' two ∙ filled_front h n y f ps f' ps' one)
      ∙ ap (λ w. X ++ (below_items h w ++ (Key p.key p.value ∷ (below_items h p.below ++ rest_items h (drop n ps''))))) (filled_gap h n x f' ps' f'' ps'' two (omega arith))
      ∙ ap (λ w. X ++ (below_items h x ++ (Key p.key p.value ∷ (below_items h p.below ++ rest_items h w)))) (filled_rest h n x f' ps' f'' ps'' two ∙ filled_rest h n y f ps f' ps' one)
      ∙ ap (λ w. X ++ (w ++ (Key p.key p.value ∷ (below_items h p.below ++ G)))) cut.left
      ∙ ap (λ w. X ++ (before k D ++ (Key w p.value ∷ (below_items h p.below ++ G)))) same
      ∙ ap (λ w. X ++ (before k D ++ (Key k w ∷ (below_items h p.below ++ G)))) value
      ∙ ap (λ w. X ++ (before k D ++ (Key k v ∷ (w ++ G)))) (ap (below_items h) behind ∙ cut.right)
      ∙ ap (λ w. X ++ w) (sym (append_assoc (before k D) (Key k v ∷ after k D) G))
      ∙ sym (put_round k (node_items h f ps) X D G gap_round (Some v))

pub gap_safe : (h : ℕ) (op : Op) (n : ℕ) (f : Below) (ps : List Part) (b : Below) → IsGapOf op.key n ps → b ≡ gap_at n f ps → IsSafe (node_items h f ps) op → IsSafe (below_items h b) op
gap_safe h op n f ps b g lies s =
    safe_round op (node_items h f ps) (front h n f ps) (below_items h b) (rest_items h (drop n ps)) (gap_round h op.key n f ps g s.ascends b lies) s

-- a part of a node that has the key
module _ (h : ℕ) (k : List ℕ) (n : ℕ) (f : Below) (ps : List Part) (at : IsKeyAt k n ps) (up : Ascends (node_items h f ps)) (q : Part) (found : q ≡ get_or ps n q) where
  key_round : node_items h f ps ≡ (front h n f ps ++ below_items h (gap_at n f ps)) ++ (Key q.key q.value ∷ (below_items h q.below ++ rest_items h (drop (suc n) ps)))
  key_round =
      let low = key_in_range k n ps at in
      key_items h n f ps q (drop (suc n) ps) (omega arith) (drop-cons ps n q low ∙ ap (λ x. x ∷ drop (suc n) ps) (sym found))

  key_cut : IsCutAt k (node_items h f ps) (front h n f ps ++ below_items h (gap_at n f ps)) (below_items h q.below ++ rest_items h (drop (suc n) ps))
  key_cut =
      let Y = front h n f ps ++ below_items h (gap_at n f ps) in let Z = below_items h q.below ++ rest_items h (drop (suc n) ps) in
      let U : List Item → Type 0 = λ x. Ascends x in let C : List Item → Type 0 = λ x. IsCutAt k x Y Z in
      let same : key_cmp q.key k ≡ Equal = ap (λ x. key_cmp x k) (key_is k n ps q at found) ∙ cmp_same k in
      subst C (sym key_round) (cut_equal k q.key q.value Y Z (subst U key_round up) same)

  put_key : (o : Option (List ℕ)) → put k o (node_items h f ps) ≡ (front h n f ps ++ below_items h (gap_at n f ps)) ++ (with_value k o ++ (below_items h q.below ++ rest_items h (drop (suc n) ps)))
  put_key o =
      let Y = front h n f ps ++ below_items h (gap_at n f ps) in
      ap (λ x. x ++ (with_value k o ++ after k (node_items h f ps))) key_cut.left ∙ ap (λ x. Y ++ (with_value k o ++ x)) key_cut.right

  -- cut at it
  pub cut_key : (L R : List Part) (left right : Below) → L ≡ take n (remove ps n) → R ≡ drop n (remove ps n) → IsBelow (h + 1) (node_items h f L) left → IsBelow (h + 1) (node_items h q.below R) right → IsCut (h + 1) k (node_items h f ps) left right
  cut_key L R left right lower upper a c =
      record {
        left_lies = a.lies;
        right_lies = c.lies;
        left = a.items ∙ ap (node_items h f) lower ∙ take_items h n f (remove ps n) (length_without n ps (key_in_range k n ps at))
            ∙ ap (λ F. F ++ below_items h (gap_at n f (remove ps n))) (front_without h n f ps) ∙ ap (λ w. front h n f ps ++ below_items h w) (gap_without n f ps) ∙ sym key_cut.left;
        right = c.items ∙ ap (λ w. below_items h q.below ++ rest_items h w) (upper ∙ drop_without n ps) ∙ sym key_cut.right;
      }

  -- with another value
  pub changed_items : (v : List ℕ) → node_items h f (set ps n (record { key = q.key; value = v; below = q.below })) ≡ put k (Some v) (node_items h f ps)
  changed_items v =
      let Y = front h n f ps ++ below_items h (gap_at n f ps) in let Z = below_items h q.below ++ rest_items h (drop (suc n) ps) in
      set_items h n f ps (record { key = q.key; value = v; below = q.below }) (key_in_range k n ps at) ∙ ap (λ x. Y ++ (Key x v ∷ Z)) (key_is k n ps q at found) ∙ sym (put_key (Some v))

  joined : put k None (node_items h f ps) ≡ front h n f ps ++ ((below_items h (gap_at n f ps) ++ below_items h q.below) ++ rest_items h (drop (suc n) ps))
  joined = put_key None ∙ met (front h n f ps) (below_items h (gap_at n f ps)) (below_items h q.below) (rest_items h (drop (suc n) ps))
    where
      met : (X D E G : List Item) → (X ++ D) ++ (E ++ G) ≡ X ++ ((D ++ E) ++ G)
      met X D E G = simp append_assoc

  -- what lay on its sides may stand side by side
  pub sides_near : (b : Below) → b ≡ gap_at n f (remove ps n) → Neighbours (put k None (node_items h f ps)) → Neighbours (below_items h b ++ below_items h q.below)
  sides_near b lies near =
      let N : List Item → Type 0 = λ x. Neighbours x in let B : Below → Type 0 = λ x. Neighbours (below_items h x ++ below_items h q.below) in
      let D = below_items h (gap_at n f ps) in let E = below_items h q.below in let G = rest_items h (drop (suc n) ps) in
      subst B (sym (lies ∙ gap_without n f ps)) (neighbours_first (D ++ E) G (near_last (front h n f ps) ((D ++ E) ++ G) (subst N joined near)))

  -- without it
  pub removed_items : (b y x f' : Below) (ps' : List Part) (f'' : Below) (ps'' : List Part) → b ≡ gap_at n f (remove ps n) → IsFilled n y f (remove ps n) f' ps' → IsFilled n x f' ps' f'' ps'' → IsBelow h (below_items h b ++ below_items h q.below) x
      → node_items h f'' ps'' ≡ put k None (node_items h f ps)
  removed_items b y x f' ps' f'' ps'' lies one two made =
      let G = rest_items h (drop (suc n) ps) in
      filled_items h n y x f (remove ps n) f' ps' f'' ps'' (length_without n ps (key_in_range k n ps at)) one two ∙ without_items h n x f ps (key_in_range k n ps at)
      ∙ ap (λ F. front h n f ps ++ (F ++ G)) (made.items ∙ ap (λ w. below_items h w ++ below_items h q.below) (lies ∙ gap_without n f ps)) ∙ sym joined
