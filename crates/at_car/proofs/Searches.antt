-- Searches by links that ascend.
use Rattle.std.proofs.Common.{◌≡◌, ℕ, zero, suc, ◌<◌, ◌≤◌, List, [], ◌∷◌, length, get_or, Bool, true, false, cond, Option, Some, None, Ordering, Less, Equal, Greater, Result, Ok, Err, refl, sym, ap, ◌∙◌, arith}
use Rattle.std.specs.Prelude.{is_ok, ◌||◌, IfOk, IfErr}
use Rattle.std.specs.Ordering.{eq_by_cmp, ordering_index}
use Rattle.std.specs.List.{HoldsAt, AllByRecursion, insert}
use Rattle.std.specs.List.Sorted.{IsNonDecreasingBy, IsPartitionPoint, IsStrictlySortedBy, IsBinarySearchResult, IsSearchInRange}
use Rattle.at_cid.specs.Order.{key_cmp}
use Rattle.at_cid.proofs.Order.{cmp_trans, cmp_exact, cmp_below}
use Rattle.at_car.specs.declared.entry.ScanEntry.{ScanEntry}
use Rattle.at_car.specs.declared.place.BlockPlace.{BlockPlace}
use Rattle.at_car.specs.Entries.{by_link, AreInOrder, place_of}
use Rattle.at_car.specs.Links.{has}
use Rattle.at_car.proofs.Same.{same_link, link_same, below_differs, above_differs}

at_most_two : (o : Ordering) → ordering_index o ≤ 2
at_most_two Less = omega arith
at_most_two Equal = omega arith
at_most_two Greater = omega arith

index_rises : (a b c : List ℕ) → key_cmp a b ≡ Less → ordering_index (key_cmp a c) ≤ ordering_index (key_cmp b c)
index_rises a b c h =
    elim (key_cmp b c) as (λ o. key_cmp b c ≡ o → ordering_index (key_cmp a c) ≤ ordering_index o) [
      | Less ↦ λ e. let less : key_cmp a c ≡ Less = cmp_trans a b c h e in omega (arith, ap ordering_index less)
      | Equal ↦ λ e. let less : key_cmp a c ≡ Less = ap (key_cmp a) (sym (cmp_exact b c e)) ∙ h in omega (arith, ap ordering_index less)
      | Greater ↦ λ e. at_most_two (key_cmp a c)
    ] refl

module _ {X : Type 0} (key : X → List ℕ) where
  abbrev pub Rise : List X → Type 0
  Rise xs = IsStrictlySortedBy (λ a b. key_cmp (key a) (key b)) xs

  pub later : (x : X) (xs : List X) → AllByRecursion (λ y. key_cmp (key x) (key y) ≡ Less) xs → (i : ℕ) (d : X) → i < length xs → key_cmp (key x) (key (get_or xs i d)) ≡ Less
  later x [] h i d low = absurd (omega (arith, low))
  later x (y ∷ xs) h zero d low = h.0
  later x (y ∷ xs) h (suc i) d low = later x xs h.1 i d (omega (arith, low))

  pub rises : (c : List ℕ) (xs : List X) → Rise xs → IsNonDecreasingBy (λ y. ordering_index (key_cmp (key y) c)) xs
  unfolding IsStrictlySortedBy
  rises c [] up i j d le low = absurd (omega (arith, low))
  rises c (x ∷ xs) up zero zero d le low = omega arith
  rises c (x ∷ xs) up zero (suc j) d le low = index_rises (key x) (key (get_or xs j d)) c (later x xs up.0 j d (omega (arith, low)))
  rises c (x ∷ xs) up (suc i) zero d le low = absurd (omega (arith, le))
  rises c (x ∷ xs) up (suc i) (suc j) d le low = rises c xs up.1 i j d (omega (arith, le)) (omega (arith, low))

-- ---- among entries

pub found : (c : List ℕ) (es : List ScanEntry) (i : ℕ) → AreInOrder es → i < length es → HoldsAt (λ (e : ScanEntry). key_cmp e.link c ≡ Equal) es i → HoldsAt (λ (e : ScanEntry). place_of c es ≡ Some e.place) es i
unfolding IsStrictlySortedBy
found c [] i up low h d = absurd (omega (arith, low))
found c (e ∷ es) zero up low h d = ap (λ t. cond t (Some e.place) (place_of c es)) (link_same c e.link (sym (cmp_exact e.link c (h d))))
found c (e ∷ es) (suc i) up low h d =
    let less : key_cmp e.link c ≡ Less = ap (key_cmp e.link) (sym (cmp_exact (get_or es i d).link c (h d))) ∙ later (λ (x : ScanEntry). x.link) e es up.0 i d (omega (arith, low)) in
    ap (λ t. cond t (Some e.place) (place_of c es)) (above_differs c e.link less) ∙ found c es i up.1 (omega (arith, low)) (λ d. h d) d

pub seek_found : (c : List ℕ) (es : List ScanEntry) (r : Result ℕ ℕ) → AreInOrder es → IsSearchInRange r (length es) → IsBinarySearchResult (λ (e : ScanEntry). key_cmp e.link c) es r → IfOk r (HoldsAt (λ (e : ScanEntry). place_of c es ≡ Some e.place) es)
seek_found c es (Ok i) up low at = found c es i up low at
seek_found c es (Err i) up low at = tt

pub seek_absent : (c : List ℕ) (es : List ScanEntry) (r : Result ℕ ℕ) → AreInOrder es → IsBinarySearchResult (λ (e : ScanEntry). key_cmp e.link c) es r → IfErr r (IsPartitionPoint (λ (e : ScanEntry). key_cmp e.link c ≡ Less) (λ (e : ScanEntry). key_cmp e.link c ≡ Greater) es)
seek_absent c es (Ok i) up at = tt
seek_absent c es (Err i) up at = at (rises (λ (e : ScanEntry). e.link) c es up)

abbrev pub IsGap : List ℕ → List ScanEntry → ℕ → Type 0
IsGap c es i = IsPartitionPoint (λ (e : ScanEntry). key_cmp e.link c ≡ Less) (λ (e : ScanEntry). key_cmp e.link c ≡ Greater) es i

gap_on : (c : List ℕ) (e : ScanEntry) (es : List ScanEntry) (i : ℕ) → IsGap c (e ∷ es) (suc i) → IsGap c es i
gap_on c e es i at = (λ k d a b. at.0 (suc k) d (omega arith) (omega (arith, b)), λ k d a b. at.1 (suc k) d (omega (arith, a)) (omega (arith, b)))

gap_first : (c : List ℕ) (e : ScanEntry) (es : List ScanEntry) → IsGap c (e ∷ es) zero → IsGap c es zero
gap_first c e es at = (λ k d a b. absurd (omega (arith, b)), λ k d a b. at.1 (suc k) d (omega arith) (omega (arith, b)))

pub absent : (c : List ℕ) (es : List ScanEntry) (i : ℕ) → IsGap c es i → place_of c es ≡ None
absent c [] i at = refl
absent c (e ∷ es) zero at =
    ap (λ t. cond t (Some e.place) (place_of c es)) (below_differs c e.link (cmp_below e.link c (at.1 0 e (omega arith) (omega arith)))) ∙ absent c es zero (gap_first c e es at)
absent c (e ∷ es) (suc i) at =
    ap (λ t. cond t (Some e.place) (place_of c es)) (above_differs c e.link (at.0 0 e (omega arith) (omega arith))) ∙ absent c es i (gap_on c e es i at)

-- ---- an entry that is put into a gap

part_none : (b : Bool) (o : Option BlockPlace) (p : BlockPlace) → cond b (Some p) o ≡ None → (b ≡ false) × (o ≡ None)
part_none true o p e = absurd cc
part_none false o p e = (refl, e)

swapped : {A : Type 0} (a b : Bool) (x y z : A) → (a ≡ true → b ≡ true → ⊥) → cond a x (cond b y z) ≡ cond b y (cond a x z)
swapped true true x y z never = absurd (never refl refl)
swapped true false x y z never = refl
swapped false b x y z never = refl

pub put_between : (q : List ℕ) (es : List ScanEntry) (i : ℕ) (x : ScanEntry) → place_of x.link es ≡ None → place_of q (insert es i x) ≡ cond (eq_by_cmp key_cmp q x.link) (Some x.place) (place_of q es)
put_between q [] zero x none = refl
put_between q [] (suc i) x none = refl
put_between q (e ∷ es) zero x none = refl
put_between q (e ∷ es) (suc i) x none =
    let parts = part_none (eq_by_cmp key_cmp x.link e.link) (place_of x.link es) e.place none in
    ap (cond (eq_by_cmp key_cmp q e.link) (Some e.place)) (put_between q es i x parts.1)
    ∙ swapped (eq_by_cmp key_cmp q e.link) (eq_by_cmp key_cmp q x.link) (Some e.place) (Some x.place) (place_of q es)
    (λ a b. let both : x.link ≡ e.link = sym (same_link q x.link b) ∙ same_link q e.link a in let t : eq_by_cmp key_cmp x.link e.link ≡ true = link_same x.link e.link both in let f = parts.0 in absurd (cc))

all_with : {X : Type 0} (P : X → Type 0) (xs : List X) (i : ℕ) (x : X) → AllByRecursion P xs → P x → AllByRecursion P (insert xs i x)
all_with P [] zero x all one = (one, tt)
all_with P [] (suc i) x all one = (one, tt)
all_with P (y ∷ xs) zero x all one = (one, all)
all_with P (y ∷ xs) (suc i) x all one = (all.0, all_with P xs i x all.1 one)

all_above : (x : ScanEntry) (es : List ScanEntry) → IsGap x.link es zero → AllByRecursion (λ y. by_link x y ≡ Less) es
all_above x [] at = tt
all_above x (e ∷ es) at = (cmp_below e.link x.link (at.1 0 e (omega arith) (omega arith)), all_above x es (gap_first x.link e es at))

pub order_between : (es : List ScanEntry) (i : ℕ) (x : ScanEntry) → IsGap x.link es i → AreInOrder es → AreInOrder (insert es i x)
unfolding IsStrictlySortedBy
order_between [] zero x at up = (tt, tt)
order_between [] (suc i) x at up = (tt, tt)
order_between (e ∷ es) zero x at up = (all_above x (e ∷ es) at, up)
order_between (e ∷ es) (suc i) x at up = (all_with (λ y. by_link e y ≡ Less) es i x up.0 (at.0 0 e (omega arith) (omega arith)), order_between es i x (gap_on x.link e es i at) up.1)

-- ---- among links alone

has_at : (c : List ℕ) (links : List (List ℕ)) (i : ℕ) → i < length links → HoldsAt (λ l. key_cmp l c ≡ Equal) links i → has links c ≡ true
has_at c [] i low h = absurd (omega (arith, low))
has_at c (l ∷ links) zero low h = ap (λ t. t || has links c) (link_same c l (sym (cmp_exact l c (h l))))
has_at c (l ∷ links) (suc i) low h = ap (λ t. eq_by_cmp key_cmp c l || t) (has_at c links i (omega (arith, low)) (λ d. h d)) ∙ elim (eq_by_cmp key_cmp c l) as (λ t. (t || true) ≡ true) [ true ↦ refl | false ↦ refl ]

abbrev IsLinkGap : List ℕ → List (List ℕ) → ℕ → Type 0
IsLinkGap c links i = IsPartitionPoint (λ l. key_cmp l c ≡ Less) (λ l. key_cmp l c ≡ Greater) links i

has_not : (c : List ℕ) (links : List (List ℕ)) (i : ℕ) → IsLinkGap c links i → has links c ≡ false
has_not c [] i at = refl
has_not c (l ∷ links) zero at =
    ap (λ t. t || has links c) (below_differs c l (cmp_below l c (at.1 0 l (omega arith) (omega arith)))) ∙ has_not c links zero (λ k d a b. absurd (omega (arith, b)), λ k d a b. at.1 (suc k) d (omega arith) (omega (arith, b)))
has_not c (l ∷ links) (suc i) at =
    ap (λ t. t || has links c) (above_differs c l (at.0 0 l (omega arith) (omega arith)))
    ∙ has_not c links i (λ k d a b. at.0 (suc k) d (omega arith) (omega (arith, b)), λ k d a b. at.1 (suc k) d (omega (arith, a)) (omega (arith, b)))

pub has_found : (c : List ℕ) (links : List (List ℕ)) (r : Result ℕ ℕ) → IsStrictlySortedBy key_cmp links → IsSearchInRange r (length links) → IsBinarySearchResult (λ l. key_cmp l c) links r → is_ok r ≡ has links c
has_found c links (Ok i) up low at = sym (has_at c links i low at)
has_found c links (Err i) up low at = sym (has_not c links i (at (rises (λ l. l) c links up)))
