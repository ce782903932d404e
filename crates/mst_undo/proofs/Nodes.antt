-- Nodes and their gaps.
use Rattle.std.proofs.Common.{◌≡◌, ℕ, zero, suc, ◌<◌, ◌≤◌, List, [], ◌∷◌, ◌++◌, length, get_or, set, drop, refl, sym, ap, ◌∙◌, subst, Less, Equal, Greater, arith, append_assoc, Ordering, Result, Ok, Err, take, append-nil}
use Rattle.std.specs.List.{insert, remove, HoldsAt}
use Rattle.std.specs.List.Sorted.{IsBinarySearchResult, IsNonDecreasingBy, IsPartitionPoint, IsSearchInRange}
use Rattle.std.specs.Ordering.{ordering_index}
use Rattle.at_cid.specs.Order.{key_cmp}
use Rattle.at_cid.proofs.Order.{cmp_trans, cmp_exact}
use Rattle.mst_list.specs.declared.item.Item.{Item}
use Rattle.mst_list.specs.declared.item.Item.TheVariants.{Key}
use Rattle.mst_list.specs.Height.{height}
use Rattle.mst_list.specs.Lists.{Ascends}
use Rattle.mst_list.proofs.Places.{AllBelow}
use Rattle.mst_list.proofs.Fills.{is_below_parts, below_key, ascends_last}
use Rattle.mst_list.proofs.Replay.{all_below_up, all_below_join}
use Rattle.mst_view.specs.Layered.{LiesBelow, AllAt, below_items, rest_items}
use Rattle.mst_view.specs.declared.branch.Below.{Below}
use Rattle.mst_view.specs.declared.branch.Part.{Part}
use Rattle.mst_undo.specs.Gaps.{AreOver, AreRising, AreNode, node_items, gap_at, first_with, parts_with, IsFilled, IsGapOf, IsKeyAt, IsPlace}
use Rattle.mst_undo.proofs.Places.{StartsOver}

-- what stands in a node before a gap
abbrev pub front : ℕ → ℕ → Below → List Part → List Item
front h zero f ps = []
front h (suc n) f [] = []
front h (suc n) f (p ∷ ps) = below_items h f ++ (Key p.key p.value ∷ front h n p.below ps)

pub gap_items : (h n : ℕ) (f : Below) (ps : List Part) → n ≤ length ps → node_items h f ps ≡ front h n f ps ++ (below_items h (gap_at n f ps) ++ rest_items h (drop n ps))
gap_items h zero f ps low = refl
gap_items h (suc n) f [] low = absurd (omega arith)
gap_items h (suc n) f (p ∷ ps) low =
    ap (λ F. below_items h f ++ (Key p.key p.value ∷ F)) (gap_items h n p.below ps (omega arith))
    ∙ sym (append_assoc (below_items h f) (Key p.key p.value ∷ front h n p.below ps) (below_items h (gap_at n p.below ps) ++ rest_items h (drop n ps)))

-- the node as far as a gap, and what stands behind it
pub take_items : (h n : ℕ) (f : Below) (ps : List Part) → n ≤ length ps → node_items h f (take n ps) ≡ front h n f ps ++ below_items h (gap_at n f ps)
take_items h zero f ps low = append-nil (below_items h f)
take_items h (suc n) f [] low = absurd (omega arith)
take_items h (suc n) f (p ∷ ps) low =
    ap (λ F. below_items h f ++ (Key p.key p.value ∷ F)) (take_items h n p.below ps (omega arith)) ∙ sym (append_assoc (below_items h f) (Key p.key p.value ∷ front h n p.below ps) (below_items h (gap_at n p.below ps)))

pub take_at : (h n : ℕ) (ps : List Part) → AllAt h ps → AllAt h (take n ps)
take_at h zero ps a = tt
take_at h (suc n) [] a = tt
take_at h (suc n) (p ∷ ps) a = (a.0, a.1, take_at h n ps a.2)

pub drop_at : (h n : ℕ) (ps : List Part) → AllAt h ps → AllAt h (drop n ps)
drop_at h zero ps a = a
drop_at h (suc n) [] a = tt
drop_at h (suc n) (p ∷ ps) a = drop_at h n ps a.2

-- a gap that is filled
front_with : (h n : ℕ) (x f : Below) (ps : List Part) → front h n (first_with n x f) (parts_with n x ps) ≡ front h n f ps
front_with h zero x f ps = refl
front_with h (suc n) x f [] = refl
front_with h (suc n) x f (p ∷ ps) = ap (λ F. below_items h f ++ (Key p.key p.value ∷ F)) (front_with h n x p.below ps)

gap_with : (n : ℕ) (x f : Below) (ps : List Part) → n ≤ length ps → gap_at n (first_with n x f) (parts_with n x ps) ≡ x
gap_with zero x f ps low = refl
gap_with (suc n) x f [] low = absurd (omega arith)
gap_with (suc n) x f (p ∷ ps) low = gap_with n x p.below ps (omega arith)

drop_with : (n : ℕ) (x : Below) (ps : List Part) → drop n (parts_with n x ps) ≡ drop n ps
drop_with zero x ps = refl
drop_with (suc n) x [] = refl
drop_with (suc n) x (p ∷ ps) = drop_with n x ps

length_with : (n : ℕ) (x : Below) (ps : List Part) → length (parts_with n x ps) ≡ length ps
length_with zero x ps = refl
length_with (suc n) x [] = refl
length_with (suc n) x (p ∷ ps) = ap suc (length_with n x ps)

lies_with : (h n : ℕ) (x f : Below) → LiesBelow h x → LiesBelow h f → LiesBelow h (first_with n x f)
lies_with h zero x f l m = l
lies_with h (suc n) x f l m = m

at_with : (h n : ℕ) (x : Below) (ps : List Part) → LiesBelow h x → AllAt h ps → AllAt h (parts_with n x ps)
at_with h zero x ps l a = a
at_with h (suc n) x [] l a = tt
at_with h (suc n) x (p ∷ ps) l a = (a.0, lies_with h n x p.below l a.1, at_with h n x ps l a.2)

pub gap_lies : (h n : ℕ) (f : Below) (ps : List Part) → AreNode h f ps → LiesBelow h (gap_at n f ps)
gap_lies h zero f ps a = a.first_lies
gap_lies h (suc n) f [] a = a.first_lies
gap_lies h (suc n) f (p ∷ ps) a = gap_lies h n p.below ps (record { first_lies = a.all_at.1; all_at = a.all_at.2 })

-- a node, one of whose gaps was filled
module _ (h n : ℕ) (x f : Below) (ps : List Part) (g : Below) (qs : List Part) (is : IsFilled n x f ps g qs) where
  pub filled_node : AreNode h f ps → LiesBelow h x → AreNode h g qs
  filled_node a l =
      let L : Below → Type 0 = λ y. LiesBelow h y in let W : List Part → Type 0 = λ y. AllAt h y in
      record { first_lies = subst L (sym is.first) (lies_with h n x f l a.first_lies); all_at = subst W (sym is.rest) (at_with h n x ps l a.all_at) }

  pub filled_length : length qs ≡ length ps
  filled_length = ap length is.rest ∙ length_with n x ps

  pub filled_front : front h n g qs ≡ front h n f ps
  filled_front = ap (λ y. front h n y qs) is.first ∙ ap (front h n (first_with n x f)) is.rest ∙ front_with h n x f ps

  pub filled_gap : n ≤ length ps → gap_at n g qs ≡ x
  filled_gap low = ap (λ y. gap_at n y qs) is.first ∙ ap (gap_at n (first_with n x f)) is.rest ∙ gap_with n x f ps low

  pub filled_rest : drop n qs ≡ drop n ps
  filled_rest = ap (drop n) is.rest ∙ drop_with n x ps

-- and filled once more
pub filled_items : (h n : ℕ) (y x f : Below) (ps : List Part) (g : Below) (qs : List Part) (g' : Below) (qs' : List Part) → n ≤ length ps → IsFilled n y f ps g qs → IsFilled n x g qs g' qs'
    → node_items h g' qs' ≡ front h n f ps ++ (below_items h x ++ rest_items h (drop n ps))
filled_items h n y x f ps g qs g' qs' low one two =
    let long = filled_length h n y f ps g qs one in let long' = filled_length h n x g qs g' qs' two in
    gap_items h n g' qs' (omega arith)
    ∙ ap (λ F. F ++ (below_items h (gap_at n g' qs') ++ rest_items h (drop n qs'))) (filled_front h n x g qs g' qs' two ∙ filled_front h n y f ps g qs one)
    ∙ ap (λ z. front h n f ps ++ (below_items h z ++ rest_items h (drop n qs'))) (filled_gap h n x g qs g' qs' two (omega arith))
    ∙ ap (λ z. front h n f ps ++ (below_items h x ++ rest_items h z)) (filled_rest h n x g qs g' qs' two ∙ filled_rest h n y f ps g qs one)

-- a part that is put into a gap
pub insert_items : (h n : ℕ) (f : Below) (ps : List Part) (p : Part) → n ≤ length ps
    → node_items h f (insert ps n p) ≡ front h n f ps ++ (below_items h (gap_at n f ps) ++ (Key p.key p.value ∷ (below_items h p.below ++ rest_items h (drop n ps))))
insert_items h zero f ps p low = refl
insert_items h (suc n) f [] p low = absurd (omega arith)
insert_items h (suc n) f (q ∷ ps) p low =
    ap (λ F. below_items h f ++ (Key q.key q.value ∷ F)) (insert_items h n q.below ps p (omega arith))
    ∙ sym (append_assoc (below_items h f) (Key q.key q.value ∷ front h n q.below ps) (below_items h (gap_at n q.below ps) ++ (Key p.key p.value ∷ (below_items h p.below ++ rest_items h (drop n ps)))))

pub insert_at : (h n : ℕ) (ps : List Part) (p : Part) → AllAt h ps → height p.key ≡ h → LiesBelow h p.below → AllAt h (insert ps n p)
insert_at h zero ps p a k l = (k, l, a)
insert_at h (suc n) [] p a k l = (k, l, tt)
insert_at h (suc n) (q ∷ ps) p a k l = (a.0, a.1, insert_at h n ps p a.2 k l)

-- a part that is taken out
pub front_without : (h n : ℕ) (f : Below) (ps : List Part) → front h n f (remove ps n) ≡ front h n f ps
front_without h zero f ps = refl
front_without h (suc n) f [] = refl
front_without h (suc n) f (q ∷ ps) = ap (λ F. below_items h f ++ (Key q.key q.value ∷ F)) (front_without h n q.below ps)

pub gap_without : (n : ℕ) (f : Below) (ps : List Part) → gap_at n f (remove ps n) ≡ gap_at n f ps
gap_without zero f ps = refl
gap_without (suc n) f [] = refl
gap_without (suc n) f (q ∷ ps) = gap_without n q.below ps

pub drop_without : (n : ℕ) (ps : List Part) → drop n (remove ps n) ≡ drop (suc n) ps
drop_without zero ps = refl
drop_without (suc n) [] = refl
drop_without (suc n) (q ∷ ps) = drop_without n ps

pub length_without : (n : ℕ) (ps : List Part) → n < length ps → n ≤ length (remove ps n)
length_without n [] low = absurd (omega arith)
length_without zero (q ∷ ps) low = omega arith
length_without (suc n) (q ∷ ps) low = let more = length_without n ps (omega arith) in omega arith

pub at_without : (h n : ℕ) (ps : List Part) → AllAt h ps → AllAt h (remove ps n)
at_without h zero [] a = tt
at_without h zero (q ∷ ps) a = a.2
at_without h (suc n) [] a = tt
at_without h (suc n) (q ∷ ps) a = (a.0, a.1, at_without h n ps a.2)

pub node_without : (h n : ℕ) (f : Below) (ps : List Part) → AreNode h f ps → AreNode h f (remove ps n)
node_without h n f ps a = record { first_lies = a.first_lies; all_at = at_without h n ps a.all_at }

-- a part that is changed
front_set : (h n : ℕ) (f : Below) (ps : List Part) (p : Part) → front h n f (set ps n p) ≡ front h n f ps
front_set h zero f ps p = refl
front_set h (suc n) f [] p = refl
front_set h (suc n) f (q ∷ ps) p = ap (λ F. below_items h f ++ (Key q.key q.value ∷ F)) (front_set h n q.below ps p)

gap_set : (n : ℕ) (f : Below) (ps : List Part) (p : Part) → gap_at n f (set ps n p) ≡ gap_at n f ps
gap_set zero f ps p = refl
gap_set (suc n) f [] p = refl
gap_set (suc n) f (q ∷ ps) p = gap_set n q.below ps p

drop_set : (n : ℕ) (ps : List Part) (p : Part) → n < length ps → drop n (set ps n p) ≡ p ∷ drop (suc n) ps
drop_set n [] p low = absurd (omega arith)
drop_set zero (q ∷ ps) p low = refl
drop_set (suc n) (q ∷ ps) p low = drop_set n ps p (omega arith)

length_set : (n : ℕ) (ps : List Part) (p : Part) → length (set ps n p) ≡ length ps
length_set n [] p = refl
length_set zero (q ∷ ps) p = refl
length_set (suc n) (q ∷ ps) p = ap suc (length_set n ps p)

pub at_set : (h n : ℕ) (ps : List Part) (p : Part) → AllAt h ps → height p.key ≡ h → LiesBelow h p.below → AllAt h (set ps n p)
at_set h n [] p a k l = tt
at_set h zero (q ∷ ps) p a k l = (k, l, a.2)
at_set h (suc n) (q ∷ ps) p a k l = (a.0, a.1, at_set h n ps p a.2 k l)

-- a part of a node
pub key_items : (h n : ℕ) (f : Below) (ps : List Part) (p : Part) (R : List Part) → n ≤ length ps → drop n ps ≡ p ∷ R
    → node_items h f ps ≡ (front h n f ps ++ below_items h (gap_at n f ps)) ++ (Key p.key p.value ∷ (below_items h p.below ++ rest_items h R))
key_items h n f ps p R low is =
    gap_items h n f ps low ∙ ap (λ z. front h n f ps ++ (below_items h (gap_at n f ps) ++ rest_items h z)) is
    ∙ sym (append_assoc (front h n f ps) (below_items h (gap_at n f ps)) (rest_items h (p ∷ R)))

pub set_items : (h n : ℕ) (f : Below) (ps : List Part) (p : Part) → n < length ps
    → node_items h f (set ps n p) ≡ (front h n f ps ++ below_items h (gap_at n f ps)) ++ (Key p.key p.value ∷ (below_items h p.below ++ rest_items h (drop (suc n) ps)))
set_items h n f ps p low =
    let long = length_set n ps p in
    key_items h n f (set ps n p) p (drop (suc n) ps) (omega arith) (drop_set n ps p low)
    ∙ ap (λ F. (F ++ below_items h (gap_at n f (set ps n p))) ++ (Key p.key p.value ∷ (below_items h p.below ++ rest_items h (drop (suc n) ps)))) (front_set h n f ps p)
    ∙ ap (λ z. (front h n f ps ++ below_items h z) ++ (Key p.key p.value ∷ (below_items h p.below ++ rest_items h (drop (suc n) ps)))) (gap_set n f ps p)

pub without_items : (h n : ℕ) (x f : Below) (ps : List Part) → n < length ps → front h n f (remove ps n) ++ (below_items h x ++ rest_items h (drop n (remove ps n))) ≡ front h n f ps ++ (below_items h x ++ rest_items h (drop (suc n) ps))
without_items h n x f ps low =
    ap (λ F. F ++ (below_items h x ++ rest_items h (drop n (remove ps n)))) (front_without h n f ps) ∙ ap (λ z. front h n f ps ++ (below_items h x ++ rest_items h z)) (drop_without n ps)

-- the gap of a key
pub gap_in_range : (k : List ℕ) (n : ℕ) (ps : List Part) → IsGapOf k n ps → n ≤ length ps
gap_in_range k zero ps g = omega arith
gap_in_range k (suc n) [] g = absurd g
gap_in_range k (suc n) (p ∷ ps) g = let more = gap_in_range k n ps g.1 in omega arith

pub gap_low : (h : ℕ) (k : List ℕ) (n : ℕ) (f : Below) (ps : List Part) → IsGapOf k n ps → Ascends (node_items h f ps) → AllBelow k (front h n f ps)
gap_low h k zero f ps g up = tt
gap_low h k (suc n) f [] g up = absurd g
gap_low h k (suc n) f (p ∷ ps) g up =
    let A = below_items h f in let F = below_items h p.below ++ rest_items h ps in
    all_below_join k A (Key p.key p.value ∷ front h n p.below ps) (all_below_up p.key k A g.0 (below_key p.key p.value A F (is_below_parts A (Key p.key p.value ∷ F) up).1))
    (g.0, gap_low h k n p.below ps g.1 (ascends_last A (Key p.key p.value ∷ F) up).1)

pub gap_over : (h : ℕ) (k : List ℕ) (n : ℕ) (ps : List Part) → IsGapOf k n ps → StartsOver k (rest_items h (drop n ps))
gap_over h k zero [] g = tt
gap_over h k zero (p ∷ ps) g = g
gap_over h k (suc n) [] g = absurd g
gap_over h k (suc n) (p ∷ ps) g = gap_over h k n ps g.1

-- the place of a key
pub key_in_range : (k : List ℕ) (n : ℕ) (ps : List Part) → IsKeyAt k n ps → n < length ps
key_in_range k n [] e = absurd e
key_in_range k zero (p ∷ ps) e = omega arith
key_in_range k (suc n) (p ∷ ps) e = let more = key_in_range k n ps e in omega arith

pub key_is : (k : List ℕ) (n : ℕ) (ps : List Part) (p : Part) → IsKeyAt k n ps → p ≡ get_or ps n p → p.key ≡ k
key_is k n [] p e is = absurd e
key_is k zero (q ∷ ps) p e is = ap (λ (x : Part). x.key) is ∙ e
key_is k (suc n) (q ∷ ps) p e is = key_is k n ps p e is

-- what a search for a key finds
index_low : (j i k : List ℕ) → key_cmp j i ≡ Less → ordering_index (key_cmp j k) ≤ ordering_index (key_cmp i k)
index_low j i k low = elim (key_cmp i k) as (λ o. key_cmp i k ≡ o → ordering_index (key_cmp j k) ≤ ordering_index o) [
  | Less ↦ λ e. rw (cmp_trans j i k low e) (omega arith)
  | Equal ↦ λ e. let less : key_cmp j k ≡ Less = ap (key_cmp j) (sym (cmp_exact i k e)) ∙ low in rw less (omega arith)
  | Greater ↦ λ e. index_most (key_cmp j k)
] refl
  where
    index_most : (o : Ordering) → ordering_index o ≤ ordering_index Greater
    index_most Less = omega arith
    index_most Equal = omega arith
    index_most Greater = omega arith

over_index : (j k : List ℕ) (ps : List Part) (i : ℕ) (d : Part) → AreOver j ps → i < length ps → ordering_index (key_cmp j k) ≤ ordering_index (key_cmp (get_or ps i d).key k)
over_index j k [] i d over low = absurd (omega arith)
over_index j k (p ∷ ps) zero d over low = index_low j p.key k over.0
over_index j k (p ∷ ps) (suc i) d over low = over_index j k ps i d over.1 (omega arith)

searchable : (k : List ℕ) (ps : List Part) → AreRising ps → IsNonDecreasingBy (λ p. ordering_index (key_cmp p.key k)) ps
searchable k [] up i j d le low = absurd (omega arith)
searchable k (p ∷ ps) up zero zero d le low = omega arith
searchable k (p ∷ ps) up zero (suc j) d le low = over_index p.key k ps j d up.0 (omega arith)
searchable k (p ∷ ps) up (suc i) zero d le low = absurd (omega arith)
searchable k (p ∷ ps) up (suc i) (suc j) d le low = searchable k ps up.1 i j d (omega arith) (omega arith)

gap_found : (k : List ℕ) (n : ℕ) (ps : List Part) → n ≤ length ps → IsPartitionPoint (λ p. key_cmp p.key k ≡ Less) (λ p. key_cmp p.key k ≡ Greater) ps n → IsGapOf k n ps
gap_found k zero [] low at = tt
gap_found k zero (p ∷ ps) low at = at.1 0 p (omega arith) (omega arith)
gap_found k (suc n) [] low at = absurd (omega arith)
gap_found k (suc n) (p ∷ ps) low at = (at.0 0 p (omega arith) (omega arith), gap_found k n ps (omega arith) (λ i d a b. at.0 (suc i) d (omega arith) (omega arith), λ i d a b. at.1 (suc i) d (omega arith) (omega arith)))

key_found : (k : List ℕ) (n : ℕ) (ps : List Part) → HoldsAt (λ p. key_cmp p.key k ≡ Equal) ps n → n < length ps → IsKeyAt k n ps
key_found k n [] e low = absurd (omega arith)
key_found k zero (q ∷ ps) e low = cmp_exact q.key k (e q)
key_found k (suc n) (q ∷ ps) e low = key_found k n ps (λ d. e d) (omega arith)

pub place_found : (k : List ℕ) (ps : List Part) (r : Result ℕ ℕ) → AreRising ps → IsSearchInRange r (length ps) → IsBinarySearchResult (λ p. key_cmp p.key k) ps r → IsPlace k ps r
place_found k ps (Ok n) up low at = key_found k n ps at low
place_found k ps (Err n) up low at = gap_found k n ps low (at (searchable k ps up))

-- the gap as the program fills it
pub gap_behind : (n : ℕ) (f : Below) (ps : List Part) (p : Part) → n < length ps → p ≡ get_or ps n p → p.below ≡ gap_at (suc n) f ps
gap_behind n f [] p low is = absurd (omega arith)
gap_behind zero f (q ∷ ps) p low is = ap (λ (x : Part). x.below) is
gap_behind (suc n) f (q ∷ ps) p low is = gap_behind n q.below ps p (omega arith) is

pub set_with : (n : ℕ) (x : Below) (ps : List Part) (p : Part) → n < length ps → p ≡ get_or ps n p → set ps n (record { key = p.key; value = p.value; below = x }) ≡ parts_with (suc n) x ps
set_with n x [] p low is = absurd (omega arith)
set_with zero x (q ∷ ps) p low is = ap (λ (y : Part). record { key = y.key; value = y.value; below = x } ∷ ps) is
set_with (suc n) x (q ∷ ps) p low is = ap (λ y. q ∷ y) (set_with n x ps p (omega arith) is)
