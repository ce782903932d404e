-- Entries that are put in order: each link keeps its first place.
use Rattle.std.proofs.Common.{arith, ◌≡◌, ℕ, List, [], ◌∷◌, ◌++◌, length, take, drop, take_all, append-nil, Bool, true, false, cond, Option, None, Some, refl, sym, ap, ◌∙◌, subst}
use Rattle.std.specs.Prelude.{nat_eq, not, ◌&&◌}
use Rattle.std.specs.Ordering.{is_lt, eq_by_cmp}
use Rattle.std.specs.List.{All, filter, dedup, dedup_from}
use Rattle.std.specs.List.Sorted.{ties, IsStableBy, IsSorted}
use Rattle.std.specs.Cmp.{IsTotalOrder, on_total}
use Rattle.std.specs.Cmp.Lexicographic.{pointwise}
use Rattle.std.proofs.lemmas.List.{drop_all}
use Rattle.std.proofs.lemmas.List.Elements.{All-append, All-take, All-drop}
use Rattle.std.proofs.lemmas.List.Kept.{IsStrictlySortedBy-dedup}
use Rattle.at_cid.specs.Order.{key_cmp}
use Rattle.at_cid.specs.OrderLaws.{key_total, key_ties}
use Rattle.at_cid.proofs.Order.{cmp_same}
use Rattle.at_car.specs.declared.entry.ScanEntry.{ScanEntry}
use Rattle.at_car.specs.declared.place.BlockPlace.{BlockPlace}
use Rattle.at_car.specs.Entries.{by_link, AreInOrder, place_of}
use Rattle.at_car.proofs.Same.{same_link}

abbrev pub same : ScanEntry → ScanEntry → Bool
same a b = pointwise nat_eq a.link b.link

abbrev pub before : ScanEntry → ScanEntry → Bool
before a b = is_lt (by_link a b)

-- ---- of entries that stand one behind the other under a link the first is left

twice : {A : Type 0} (b : Bool) (x y z : A) → cond b x z ≡ cond b x (cond b y z)
twice true x y z = refl
twice false x y z = refl

left_from : (q : List ℕ) (k : ScanEntry) (xs : List ScanEntry) → place_of q (dedup_from same k xs) ≡ place_of q (k ∷ xs)
left_from q k [] = refl
left_from q k (x ∷ xs) =
    elim (same x k) as (λ t. same x k ≡ t → place_of q (cond t (dedup_from same k xs) (k ∷ dedup_from same x xs)) ≡ place_of q (k ∷ x ∷ xs)) [
      | true ↦ λ e.
          let is : x.link ≡ k.link = same_link x.link k.link (sym (key_ties x.link k.link) ∙ e) in
          left_from q k xs ∙ twice (eq_by_cmp key_cmp q k.link) (Some k.place) (Some x.place) (place_of q xs)
          ∙ ap (λ l. cond (eq_by_cmp key_cmp q k.link) (Some k.place) (cond (eq_by_cmp key_cmp q l) (Some x.place) (place_of q xs))) (sym is)
      | false ↦ λ e. ap (cond (eq_by_cmp key_cmp q k.link) (Some k.place)) (left_from q x xs)
    ] refl

pub left_of_each : (q : List ℕ) (xs : List ScanEntry) → place_of q (dedup same xs) ≡ place_of q xs
left_of_each q [] = refl
left_of_each q (x ∷ xs) = left_from q x xs

-- ---- a sort of entries by their links alone that is stable keeps which entry of a link is the first

of_kept : (q : List ℕ) (kept : ScanEntry → Bool) → ((e : ScanEntry) → q ≡ e.link → kept e ≡ true) → (es : List ScanEntry) → place_of q (filter kept es) ≡ place_of q es
of_kept q kept all [] = refl
of_kept q kept all (e ∷ es) =
    let rest = filter kept es in
    elim (eq_by_cmp key_cmp q e.link) as (λ t. eq_by_cmp key_cmp q e.link ≡ t → place_of q (cond (kept e) (e ∷ rest) rest) ≡ cond t (Some e.place) (place_of q es)) [
      | true ↦ λ h. ap (λ t. place_of q (cond t (e ∷ rest) rest)) (all e (same_link q e.link h)) ∙ ap (λ t. cond t (Some e.place) (place_of q rest)) h
      | false ↦ λ h.
          elim (kept e) as (λ t. place_of q (cond t (e ∷ rest) rest) ≡ place_of q es) [
            | true ↦ ap (λ t. cond t (Some e.place) (place_of q rest)) h ∙ of_kept q kept all es
            | false ↦ of_kept q kept all es
          ]
    ] refl

abbrev under : List ℕ → ScanEntry
under q = record { link = q; place = record { start = 0; len = 0 } }

pub stable_places : (less : List ℕ → List ℕ → Bool) → ((l : List ℕ) → less l l ≡ false) → (q : List ℕ) (xs ys : List ScanEntry) → IsStableBy (λ (a b : ScanEntry). less a.link b.link) xs ys → place_of q ys ≡ place_of q xs
stable_places less never q xs ys h =
    let by : ScanEntry → ScanEntry → Bool = λ a b. less a.link b.link in
    let all : (e : ScanEntry) → q ≡ e.link → ties by (under q) e ≡ true = λ e s. ap (λ l. not (less q l) && not (less l q)) (sym s) ∙ ap (λ t. not t && not t) (never q) in
    sym (of_kept q (ties by (under q)) all ys) ∙ ap (place_of q) (h (under q)) ∙ of_kept q (ties by (under q)) all xs

pub sorted_places : (q : List ℕ) (xs ys : List ScanEntry) → IsStableBy before xs ys → place_of q ys ≡ place_of q xs
sorted_places = stable_places (λ a b. is_lt (key_cmp a b)) (λ l. ap is_lt (cmp_same l))

-- ---- entries of which each half is put in order for itself

first_of : Option BlockPlace → Option BlockPlace → Option BlockPlace
first_of None other = other
first_of (Some place) other = Some place

joined_places : (q : List ℕ) (xs ys : List ScanEntry) → place_of q (xs ++ ys) ≡ first_of (place_of q xs) (place_of q ys)
unfolding first_of
joined_places q [] ys = refl
joined_places q (x ∷ xs) ys =
    elim (eq_by_cmp key_cmp q x.link) as (λ t. cond t (Some x.place) (place_of q (xs ++ ys)) ≡ first_of (cond t (Some x.place) (place_of q xs)) (place_of q ys)) [
      | true ↦ refl
      | false ↦ joined_places q xs ys
    ]

pub halves_places : (q : List ℕ) (entries xs ys xs2 ys2 : List ScanEntry) → entries ≡ xs ++ ys → place_of q xs2 ≡ place_of q xs → place_of q ys2 ≡ place_of q ys → place_of q (xs2 ++ ys2) ≡ place_of q entries
halves_places q entries xs ys xs2 ys2 split front back =
    joined_places q xs2 ys2
    ∙ ap (λ o. first_of o (place_of q ys2)) front
    ∙ ap (first_of (place_of q xs)) back
    ∙ sym (joined_places q xs ys)
    ∙ ap (place_of q) (sym split)

pub halves_all : (P : ScanEntry → Type 0) (half : ℕ) (entries xs ys xs2 ys2 : List ScanEntry) → xs ≡ take half entries → ys ≡ drop half entries → (All P xs → All P xs2) → (All P ys → All P ys2) → All P entries → All P (xs2 ++ ys2)
halves_all P half entries xs ys xs2 ys2 is_front is_back front back h =
    All-append P xs2 ys2
    (front (subst (λ (l : List ScanEntry). All P l) (sym is_front) (All-take P half entries h)))
    (back (subst (λ (l : List ScanEntry). All P l) (sym is_back) (All-drop P half entries h)))

-- ---- a vector of which the slice was put in order

module _ (items slice new : List ScanEntry) (len : ℕ) (is : slice ≡ items) (has : length slice ≡ len) (as_long : length new ≡ length slice) where
  left_is : take len (new ++ drop (length new) items) ≡ new
  left_is =
      let long : length items ≡ len = ap length (sym is) ∙ has in
      ap (λ l. take len (new ++ l)) (drop_all (length new) items (omega arith)) ∙ ap (take len) (append-nil new) ∙ take_all len new (omega arith)

  pub slice_places : (q : List ℕ) → place_of q new ≡ place_of q slice → place_of q (take len (new ++ drop (length new) items)) ≡ place_of q items
  slice_places q same_place = ap (place_of q) left_is ∙ same_place ∙ ap (place_of q) is

  pub slice_all : (P : ScanEntry → Type 0) → (All P slice → All P new) → All P items → All P (take len (new ++ drop (length new) items))
  slice_all P keeps h = subst (λ (l : List ScanEntry). All P l) (sym left_is) (keeps (subst (λ (l : List ScanEntry). All P l) (sym is) h))

-- ---- in order

pub by_link_total : IsTotalOrder by_link
by_link_total = on_total (λ (e : ScanEntry). e.link) key_total

pub in_order : (xs : List ScanEntry) → IsSorted by_link xs → AreInOrder (dedup same xs)
in_order xs h = IsStrictlySortedBy-dedup by_link_total (λ a b. key_ties a.link b.link) xs h
