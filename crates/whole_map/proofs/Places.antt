-- The piece in which a key stands.
use Rattle.std.proofs.Common.{◌≡◌, ℕ, zero, suc, ◌<◌, ◌-◌, true, false, List, [], ◌∷◌, ◌++◌, length, set, get_or, refl, sym, ap, ◌∙◌, subst, arith, append_assoc, Ordering, Less, Equal, Greater, Option}
use Rattle.std.specs.List.Sorted.{IsPartitionedBy}
use Rattle.at_cid.specs.Order.{key_cmp}
use Rattle.at_cid.proofs.Order.{cmp_below, cmp_exact, cmp_trans}
use Rattle.mst_list.specs.declared.item.Item.{Item}
use Rattle.mst_list.specs.declared.item.Item.TheVariants.{Key, Hole}
use Rattle.mst_list.specs.Edits.{after, before, by_order, put, value_at, with_value}
use Rattle.mst_list.specs.Lists.{AllAbove, Ascends, KeysOnly}
use Rattle.mst_list.proofs.Commute.{put_front}
use Rattle.mst_list.proofs.Fills.{IsBelow, all_above_parts, all_above_up, ascends_last, below_key, is_below_parts, keys_only_parts, starts_above}
use Rattle.mst_list.proofs.Kept.{after_back, before_back, value_back, value_front}
use Rattle.mst_list.proofs.Places.{AllBelow}
use Rattle.mst_list.proofs.Replay.{all_below_up}
use Rattle.whole_map.specs.Pieces.{AreFilled, ArePieces, IsCountBegun, IsPlace, begins_by, flatten}

-- what is below a piece's first key is below a key by which it begins
begun_after : (i j k : List ℕ) → key_cmp i j ≡ Less → by_order (key_cmp j k) true true false ≡ true → key_cmp i k ≡ Less
begun_after i j k low begun = go (key_cmp j k) refl begun
  where
    go : (o : Ordering) → key_cmp j k ≡ o → by_order o true true false ≡ true → key_cmp i k ≡ Less
    go Less e begun = cmp_trans i j k low e
    go Equal e begun = subst (λ (x : List ℕ). key_cmp i x ≡ Less) (cmp_exact j k e) low
    go Greater e begun = absurd cc

begun_low : (i k : List ℕ) (ps : List (List Item)) (j : ℕ) (d : List Item) → AllAbove i (flatten ps) → j < length ps → begins_by k (get_or ps j d) ≡ true → key_cmp i k ≡ Less
begun_low i k [] j d above low begun = absurd (omega arith)
begun_low i k ([] ∷ ps) zero d above low begun = absurd cc
begun_low i k ((Hole l c ∷ p) ∷ ps) zero d above low begun = absurd cc
begun_low i k ((Key j v ∷ p) ∷ ps) zero d above low begun = begun_after i j k above.0 begun
begun_low i k (p ∷ ps) (suc j) d above low begun = begun_low i k ps j d (all_above_parts i p (flatten ps) above).1 (omega arith) begun

begins_low : (j k v : List ℕ) (p : List Item) → key_cmp j k ≡ Less → begins_by k (Key j v ∷ p) ≡ true
begins_low j k v p low = rw low refl

-- the pieces that begin by a key stand before the others
pub parted : (k : List ℕ) (ps : List (List Item)) → Ascends (flatten ps) → KeysOnly (flatten ps) → AreFilled ps → IsPartitionedBy (begins_by k) ps
parted k [] up whole filled i j d le low begun = absurd (omega arith)
parted k (p ∷ ps) up whole filled zero zero d le low begun = begun
parted k (p ∷ ps) up whole filled (suc i) zero d le low begun = absurd (omega arith)
parted k (p ∷ ps) up whole filled (suc i) (suc j) d le low begun =
    parted k ps (ascends_last p (flatten ps) up) (keys_only_parts p (flatten ps) whole).1 filled.1 i j d (omega arith) (omega arith) begun
parted k ([] ∷ ps) up whole filled zero (suc j) d le low begun = absurd (omega (arith, filled.0))
parted k ((Hole l c ∷ p) ∷ ps) up whole filled zero (suc j) d le low begun = absurd whole
parted k ((Key i v ∷ p) ∷ ps) up whole filled zero (suc j) d le low begun =
    begins_low i k v p (begun_low i k ps j d (all_above_parts i p (flatten ps) up.0).1 (omega arith) begun)

-- the key is above the pieces before a place, and below those after it
abbrev IsHere : List ℕ → List (List Item) → ℕ → Type 0
IsHere k [] at = ⊥
IsHere k (p ∷ ps) zero = AllAbove k (flatten ps)
IsHere k (p ∷ ps) (suc at) = AllBelow k p × IsHere k ps at

above_begun : (k j v : List ℕ) (p : List Item) → Ascends (Key j v ∷ p) → by_order (key_cmp j k) true true false ≡ false → AllAbove k (Key j v ∷ p)
above_begun k j v p up begun = go (key_cmp j k) refl begun
  where
    go : (o : Ordering) → key_cmp j k ≡ o → by_order o true true false ≡ false → AllAbove k (Key j v ∷ p)
    go Less e begun = absurd cc
    go Equal e begun = absurd cc
    go Greater e begun = let low = cmp_below j k e in (low, all_above_up k j p low up.0)

-- pieces of which the first begins above a key
all_after : (k : List ℕ) (ps : List (List Item)) → Ascends (flatten ps) → KeysOnly (flatten ps) → AreFilled ps → ((d : List Item) → 0 < length ps → begins_by k (get_or ps 0 d) ≡ false) → AllAbove k (flatten ps)
all_after k [] up whole filled begun = tt
all_after k ([] ∷ ps) up whole filled begun = absurd (omega (arith, filled.0))
all_after k ((Hole l c ∷ p) ∷ ps) up whole filled begun = absurd whole
all_after k ((Key j v ∷ p) ∷ ps) up whole filled begun = above_begun k j v (p ++ flatten ps) up (begun [] (omega arith))

below_begun : (k : List ℕ) (a : List Item) (q F : List Item) → IsBelow a (q ++ F) → begins_by k q ≡ true → AllBelow k a
below_begun k a [] F below begun = absurd cc
below_begun k a (Hole l c ∷ q) F below begun = absurd cc
below_begun k a (Key j v ∷ q) F below begun = go (key_cmp j k) refl begun
  where
    under : AllBelow j a
    under = below_key j v a (q ++ F) below

    go : (o : Ordering) → key_cmp j k ≡ o → by_order o true true false ≡ true → AllBelow k a
    go Less e begun = all_below_up j k a e under
    go Equal e begun = subst (λ (x : List ℕ). AllBelow x a) (cmp_exact j k e) under
    go Greater e begun = absurd cc

here : (k : List ℕ) (ps : List (List Item)) (n at : ℕ) → 0 < length ps → Ascends (flatten ps) → KeysOnly (flatten ps) → AreFilled ps → IsCountBegun k ps n → at ≡ n - 1 → IsHere k ps at
here k [] n at some up whole filled begun is = absurd (omega arith)
here k (p ∷ ps) n zero some up whole filled begun is =
    all_after k ps (ascends_last p (flatten ps) up) (keys_only_parts p (flatten ps) whole).1 filled.1 (λ d low. begun.1.1 1 d (omega (arith, is)) (omega (arith, low)))
here k (p ∷ []) n (suc at) some up whole filled begun is = let most = begun.0 in absurd (omega arith)
here k (p ∷ (q ∷ ps)) n (suc at) some up whole filled begun is =
    let parts = is_below_parts p (q ++ flatten ps) up in let most = begun.0 in
    let begun_later : IsCountBegun k (q ∷ ps) (n - 1) = (omega arith, (λ i d a b. begun.1.0 (suc i) d (omega arith) (omega arith), λ i d a b. begun.1.1 (suc i) d (omega arith) (omega arith))) in (
      below_begun k p q (flatten ps) parts.1 (begun.1.0 1 [] (omega arith) (omega arith)),
      here k (q ∷ ps) (n - 1) at (omega arith) parts.2 (keys_only_parts p (q ++ flatten ps) whole).1 filled.1 begun_later (omega arith),
    )

low_here : (k : List ℕ) (ps : List (List Item)) (at : ℕ) → IsHere k ps at → at < length ps
low_here k [] at at_here = absurd at_here
low_here k (p ∷ ps) zero at_here = omega arith
low_here k (p ∷ ps) (suc at) at_here = let low = low_here k ps at at_here.1 in omega arith

value_here : (k : List ℕ) (ps : List (List Item)) (at : ℕ) → IsHere k ps at → (p : List Item) → p ≡ get_or ps at p → value_at k (flatten ps) ≡ value_at k p
value_here k [] at at_here p is = absurd at_here
value_here k (q ∷ ps) zero at_here p is = value_front k q (flatten ps) at_here ∙ ap (value_at k) (sym is)
value_here k (q ∷ ps) (suc at) at_here p is = value_back k q (flatten ps) at_here.0 ∙ value_here k ps at at_here.1 p is

put_back : (k : List ℕ) (o : Option (List ℕ)) (A Y : List Item) → AllBelow k A → put k o (A ++ Y) ≡ A ++ put k o Y
put_back k o A Y low =
    rw (before_back k A Y low, after_back k A Y low) (append_assoc A (before k Y) (with_value k o ++ after k Y))

edit_here : (k : List ℕ) (ps : List (List Item)) (at : ℕ) → KeysOnly (flatten ps) → IsHere k ps at → (p : List Item) → p ≡ get_or ps at p → (o : Option (List ℕ)) → put k o (flatten ps) ≡ flatten (set ps at (put k o p))
edit_here k [] at whole at_here p is o = absurd at_here
edit_here k (q ∷ ps) zero whole at_here p is o =
    put_front k o q (flatten ps) (starts_above k (flatten ps) (keys_only_parts q (flatten ps) whole).1 at_here) ∙ ap (λ (x : List Item). put k o x ++ flatten ps) (sym is)
edit_here k (q ∷ ps) (suc at) whole at_here p is o =
    put_back k o q (flatten ps) at_here.0 ∙ ap (λ (x : List Item). q ++ x) (edit_here k ps at (keys_only_parts q (flatten ps) whole).1 at_here.1 p is o)

pub placed : (k : List ℕ) (ps : List (List Item)) (n : ℕ) → 0 < length ps → ArePieces ps → IsCountBegun k ps n → IsPlace k ps (n - 1)
placed k ps n some pieces begun =
    let at_here = here k ps n (n - 1) some pieces.ascends pieces.whole pieces.filled begun refl in
    record {
      low = low_here k ps (n - 1) at_here;
      value = value_here k ps (n - 1) at_here;
      edit = edit_here k ps (n - 1) pieces.whole at_here;
    }
