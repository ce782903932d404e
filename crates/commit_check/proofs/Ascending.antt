-- Paths that ascend.
use Rattle.std.proofs.Common.{◌≡◌, ℕ, ◌+◌, ◌<◌, List, [], ◌∷◌, length, get_or, Bool, true, false, refl, sym, ap, ◌∙◌, Ordering, Less, Equal, Greater, arith}
use Rattle.std.specs.Prelude.{◌↔◌, IsTrue}
use Rattle.std.specs.Fn.{Called, ComputesOnPairs}
use Rattle.std.specs.List.{AllAdjacentBelow, AllByRecursion, IsAllAdjacentAnswer}
use Rattle.std.specs.List.Sorted.{IsStrictlySortedBy}
use Rattle.std.specs.Ordering.{is_eq, is_lt}
use Rattle.std.specs.Str.{bytes_eq}
use Rattle.std.proofs.lemmas.Fn.{always_returns_same}
use Rattle.std.proofs.lemmas.List.{get_or-map, length-map}
use Rattle.std.proofs.lemmas.Map.Keys.{Less-from_sorted, sorted_from_all_adjacent}
use denote.Ref.{Bor}
use denote.Param.Members.{Mut}
use Rattle.at_cid.specs.Distinct.{all_differ, is_absent}
use Rattle.at_cid.specs.Order.{key_cmp}
use Rattle.at_cid.specs.OrderLaws.{key_ties, key_total}
use Rattle.at_cid.proofs.Order.{cmp_above}
use Rattle.at_event.specs.declared.ops.EventOp.{EventOp}
use Rattle.event_checks.specs.Table.{paths_of}

-- a path above another isn't the same
above_differs : (low path : List ℕ) → key_cmp low path ≡ Less → bytes_eq path low ≡ false
above_differs low path e = key_ties path low ∙ ap is_eq (cmp_above low path e)

low_absent : (low : List ℕ) (paths : List (List ℕ)) → AllByRecursion (λ path. key_cmp low path ≡ Less) paths → is_absent bytes_eq low paths ≡ true
low_absent low [] h = refl
low_absent low (path ∷ paths) h = rw (above_differs low path h.0, low_absent low paths h.1) refl

pub ascending_differ : (paths : List (List ℕ)) → IsStrictlySortedBy key_cmp paths → all_differ bytes_eq paths ≡ true
unfolding IsStrictlySortedBy
ascending_differ [] up = refl
ascending_differ (path ∷ paths) up = rw (low_absent path paths up.0, ascending_differ paths up.1) refl

-- the path of an operation is below that of another
abbrev is_below : EventOp → EventOp → Bool
is_below a b = is_lt (key_cmp a.path b.path)

less_of : (o : Ordering) → true ≡ is_lt o → o ≡ Less
less_of Less e = refl
less_of Equal e = absurd cc
less_of Greater e = absurd cc

-- two neighbours among the operations compare as their paths do
neighbours : (ops : List EventOp) (i : ℕ) (d : EventOp) → i + 1 < length ops → key_cmp (get_or (paths_of ops) i d.path) (get_or (paths_of ops) (i + 1) d.path) ≡ key_cmp (get_or ops i d).path (get_or ops (i + 1) d).path
neighbours ops i d low = rw (path_at i (omega arith), path_at (i + 1) low) refl
  where
    path_at : (j : ℕ) → j < length ops → get_or (paths_of ops) j d.path ≡ (get_or ops j d).path
    path_at j here = get_or-map (λ (op : EventOp). op.path) ops j d d.path here

as_many : (ops : List EventOp) → length (paths_of ops) ≡ length ops
as_many ops = length-map ops (λ (op : EventOp). op.path)

all_ascend : (ops : List EventOp) (d : EventOp) → AllAdjacentBelow (λ a b. true ≡ is_below a b) ops (length ops) → IsStrictlySortedBy key_cmp (paths_of ops)
all_ascend ops d up =
    sorted_from_all_adjacent key_total (paths_of ops) d.path (λ i among.
    let low : i + 1 < length ops = omega (arith, as_many ops) in
    neighbours ops i d low ∙ less_of (key_cmp (get_or ops i d).path (get_or ops (i + 1) d).path) (up i d low))

below_next : (ops : List EventOp) (i : ℕ) (d : EventOp) → i + 1 < length ops → IsStrictlySortedBy key_cmp (paths_of ops) → is_below (get_or ops i d) (get_or ops (i + 1) d) ≡ true
below_next ops i d low up = ap is_lt (sym (neighbours ops i d low) ∙ Less-from_sorted key_cmp (paths_of ops) i (i + 1) d.path up (omega arith) (omega (arith, as_many ops)))

-- whether neighbours each are below the next tells whether the paths ascend
told : (ops : List EventOp) (r : Bool) → IsAllAdjacentAnswer (λ a b t. t ≡ is_below a b) ops r → IsTrue r ↔ IsStrictlySortedBy key_cmp (paths_of ops)
unfolding IsStrictlySortedBy
told [] true h = (λ t. tt, λ up. refl)
told [] false h = absurd (omega (arith, h.1))
told (op ∷ ops) true h = (λ t. all_ascend (op ∷ ops) op h, λ up. refl)
told (op ∷ ops) false h = (λ t. absurd cc, λ up. h.2 op ∙ below_next (op ∷ ops) h.0 op h.1 up)

-- what `is_sorted_by` tells, where its closure compares paths
pub ascend_told : {F : Type 0} {g : Mut F (Bor EventOp × (Bor EventOp × Unit {0})) Bool} {f : F} (ops : List EventOp) (r : Bool)
    → ((e : EventOp → EventOp → Bool) → ComputesOnPairs g e f → IsAllAdjacentAnswer (λ a b t. t ≡ e a b) ops r)
    → ((a : Bor EventOp × (Bor EventOp × Unit {0})) (t : Bool) (f' : F) → Called g f a t f' → (t ≡ is_lt (key_cmp a.0.now.path a.1.0.now.path)) × (f' ≡ f)) → IsTrue r ↔ IsStrictlySortedBy key_cmp (paths_of ops)
ascend_told {g = g} {f = f} ops r cases h = told ops r (cases is_below (always_returns_same g (λ a t. t ≡ is_below a.0.now a.1.0.now) f h))
