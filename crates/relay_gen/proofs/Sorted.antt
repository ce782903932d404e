-- The search among records.
use Rattle.std.proofs.Common.{◌≡◌, ℕ, zero, suc, ◌<◌, ◌≤◌, Bool, true, false, List, [], ◌∷◌, ◌++◌, length, map, get_or, slice_get, insert, remove, is_some, refl, sym, ap, ◌∙◌, Some, None, Ordering, Less, Equal, Greater, arith}
use Rattle.std.specs.List.Sorted.{IsPartitionedBy, IsPartitionPoint}
use Rattle.std.specs.Str.{bytes_eq}
use Rattle.std.proofs.lemmas.Slice.Eq.{bytes_eq-Decides}
use Rattle.at_cid.specs.Order.{key_cmp}
use Rattle.at_cid.proofs.Order.{cmp_trans, cmp_exact, cmp_same}
use Rattle.mst_list.specs.declared.item.Item.{Item}
use Rattle.mst_list.specs.Lists.{AllAbove, Ascends, KeysOnly}
use Rattle.mst_list.specs.Edits.{by_order, before, after, value_at}
use Rattle.mst_node.specs.Covers.{last_key, first_key}
use Rattle.mst_node.specs.Fits.{is_less}
use Rattle.relay_gen.specs.declared.records.Record.{Record}
use Rattle.relay_gen.specs.Covers.{key_or_none, neighbours}
use Rattle.relay_gen.specs.Records.{behind, has_path, is_below, item_of, last_path, path_or_none}

pub keys_only : (rs : List Record) → KeysOnly (map item_of rs)
keys_only [] = tt
keys_only (r ∷ rs) = keys_only rs

-- what is below a path that is below k is below it
below_less : (k j i : List ℕ) → key_cmp j i ≡ Less → is_less i k ≡ true → is_less j k ≡ true
below_less k j i low = elim (key_cmp i k) as (λ o. key_cmp i k ≡ o → by_order o true false false ≡ true → is_less j k ≡ true) [
  | Less ↦ λ e t. rw (cmp_trans j i k low e) refl
  | Equal ↦ λ e t. absurd cc
  | Greater ↦ λ e t. absurd cc
] refl

first_less : (k j : List ℕ) (rs : List Record) (i : ℕ) (d : Record) → AllAbove j (map item_of rs) → i < length rs → is_below k (get_or rs i d) ≡ true → is_less j k ≡ true
first_less k j [] i d over low t = absurd (omega arith)
first_less k j (r ∷ rs) zero d over low t = below_less k j r.path over.0 t
first_less k j (r ∷ rs) (suc i) d over low t = first_less k j rs i d over.1 (omega arith) t

pub parted : (k : List ℕ) (rs : List Record) → Ascends (map item_of rs) → IsPartitionedBy (is_below k) rs
parted k [] up i j d le low t = absurd (omega arith)
parted k (r ∷ rs) up zero zero d le low t = t
parted k (r ∷ rs) up zero (suc j) d le low t = first_less k r.path rs j d up.0 (omega arith) t
parted k (r ∷ rs) up (suc i) zero d le low t = absurd (omega arith)
parted k (r ∷ rs) up (suc i) (suc j) d le low t = parted k rs up.1 i j d (omega arith) (omega arith) t

step_on : (o : Ordering) (n : ℕ) (x : Item) (xs : List Item) → by_order o true false false ≡ true → n ≡ length xs → suc n ≡ length (by_order o (x ∷ xs) [] [])
step_on Less n x xs t e = ap suc e
step_on Equal n x xs t e = absurd cc
step_on Greater n x xs t e = absurd cc

step_none : (o : Ordering) (x : Item) (xs : List Item) → by_order o true false false ≡ false → 0 ≡ length (by_order o (x ∷ xs) [] [])
step_none Less x xs t = absurd cc
step_none Equal x xs t = refl
step_none Greater x xs t = refl

-- the place where the search ends
pub place_is : (k : List ℕ) (rs : List Record) (n : ℕ) → n ≤ length rs → IsPartitionPoint (λ r. is_below k r ≡ true) (λ r. is_below k r ≡ false) rs n → n ≡ length (before k (map item_of rs))
place_is k [] n le at = omega arith
place_is k (r ∷ rs) zero le at = step_none (key_cmp r.path k) (item_of r) (before k (map item_of rs)) (at.1 0 r (omega arith) (omega arith))
place_is k (r ∷ rs) (suc n) le at =
    step_on (key_cmp r.path k) n (item_of r) (before k (map item_of rs)) (at.0 0 r (omega arith) (omega arith))
    (place_is k rs n (omega arith) (λ i d a b. at.0 (suc i) d (omega arith) (omega arith), λ i d a b. at.1 (suc i) d (omega arith) (omega arith)))

-- whether the record at the place of a path has it
equal_texts : (a b : List ℕ) → a ≡ b → bytes_eq a b ≡ true
equal_texts a b e = (bytes_eq-Decides a b).1 e

other_texts : (a b : List ℕ) → (a ≡ b → ⊥) → bytes_eq a b ≡ false
other_texts a b ne = go (bytes_eq a b) refl
  where
    go : (x : Bool) → bytes_eq a b ≡ x → bytes_eq a b ≡ false
    go true e = absurd (ne ((bytes_eq-Decides a b).0 e))
    go false e = e

pub found_at : (k : List ℕ) (rs : List Record) → has_path k (slice_get rs (length (before k (map item_of rs)))) ≡ is_some (value_at k (map item_of rs))
found_at k [] = refl
found_at k (r ∷ rs) =
    let F = map item_of rs in
    elim (key_cmp r.path k) as (λ o. key_cmp r.path k ≡ o → has_path k (slice_get (r ∷ rs) (length (by_order o (item_of r ∷ before k F) [] []))) ≡ is_some (by_order o (value_at k F) (Some r.value) None)) [
      | Less ↦ λ e. found_at k rs
      | Equal ↦ λ e. equal_texts r.path k (cmp_exact r.path k e)
      | Greater ↦ λ e. other_texts r.path k (λ same. let alike : key_cmp r.path k ≡ Equal = ap (λ x. key_cmp x k) same ∙ cmp_same k in absurd cc)
    ] refl

behind_suc : (b : Bool) (n : ℕ) → behind b (suc n) ≡ suc (behind b n)
behind_suc true n = omega arith
behind_suc false n = refl

first_path : (rs : List Record) → key_or_none (first_key (map item_of rs)) ≡ path_or_none (slice_get rs 0)
first_path [] = refl
first_path (r ∷ rs) = refl

-- the next greater path
pub next_path : (k : List ℕ) (rs : List Record) → key_or_none (first_key (after k (map item_of rs))) ≡ path_or_none (slice_get rs (behind (is_some (value_at k (map item_of rs))) (length (before k (map item_of rs)))))
next_path k [] = refl
next_path k (r ∷ rs) =
    let F = map item_of rs in
    elim (key_cmp r.path k) as (λ o. key_or_none (first_key (by_order o (after k F) F (item_of r ∷ F))) ≡ path_or_none (slice_get (r ∷ rs) (behind (is_some (by_order o (value_at k F) (Some r.value) None)) (length (by_order o (item_of r ∷ before k F) [] []))))) [
      | Less ↦ next_path k rs ∙ ap (λ n. path_or_none (slice_get (r ∷ rs) n)) (sym (behind_suc (is_some (value_at k F)) (length (before k F))))
      | Equal ↦ first_path rs
      | Greater ↦ refl
    ]

last_step : (r : Record) (rs : List Record) (X : List Item) → key_or_none (last_key X) ≡ last_path rs (length X) → key_or_none (last_key (item_of r ∷ X)) ≡ last_path (r ∷ rs) (suc (length X))
last_step r rs [] ih = refl
last_step r rs (y ∷ X) ih = ih

-- the next smaller path
pub path_before : (k : List ℕ) (rs : List Record) → key_or_none (last_key (before k (map item_of rs))) ≡ last_path rs (length (before k (map item_of rs)))
path_before k [] = refl
path_before k (r ∷ rs) =
    let F = map item_of rs in
    elim (key_cmp r.path k) as (λ o. key_or_none (last_key (by_order o (item_of r ∷ before k F) [] [])) ≡ last_path (r ∷ rs) (length (by_order o (item_of r ∷ before k F) [] []))) [
      | Less ↦ last_step r rs (before k F) (path_before k rs)
      | Equal ↦ refl
      | Greater ↦ refl
    ]

-- edits of records are edits of the list of their keys
pub insert_items : (rs : List Record) (n : ℕ) (r : Record) → map item_of (insert rs n r) ≡ insert (map item_of rs) n (item_of r)
insert_items rs zero r = refl
insert_items [] (suc n) r = refl
insert_items (x ∷ rs) (suc n) r = ap (λ y. item_of x ∷ y) (insert_items rs n r)

pub remove_items : (rs : List Record) (n : ℕ) → map item_of (remove rs n) ≡ remove (map item_of rs) n
remove_items [] zero = refl
remove_items [] (suc n) = refl
remove_items (x ∷ rs) zero = refl
remove_items (x ∷ rs) (suc n) = ap (λ y. item_of x ∷ y) (remove_items rs n)

pub length_items : (rs : List Record) → length (map item_of rs) ≡ length rs
length_items [] = refl
length_items (r ∷ rs) = ap suc (length_items rs)

-- the neighbours of a path, by its place
pub beside : (k : List ℕ) (rs : List Record) (n : ℕ) → n ≡ length (before k (map item_of rs)) → last_path rs n ++ path_or_none (slice_get rs (behind (has_path k (slice_get rs n)) n)) ≡ neighbours (map item_of rs) k None
beside k rs n e =
    ap (λ m. last_path rs m ++ path_or_none (slice_get rs (behind (has_path k (slice_get rs m)) m))) e
    ∙ ap (λ b. last_path rs (length (before k (map item_of rs))) ++ path_or_none (slice_get rs (behind b (length (before k (map item_of rs)))))) (found_at k rs)
    ∙ ap (λ x. x ++ path_or_none (slice_get rs (behind (is_some (value_at k (map item_of rs))) (length (before k (map item_of rs)))))) (sym (path_before k rs))
    ∙ ap (λ x. key_or_none (last_key (before k (map item_of rs))) ++ x) (sym (next_path k rs))

-- the item at a place
pub item_at : (rs : List Record) (i : ℕ) (r : Record) → i < length rs → r ≡ get_or rs i r → slice_get (map item_of rs) i ≡ Some (item_of r)
item_at [] i r low e = absurd (omega arith)
item_at (x ∷ rs) zero r low e = ap (λ y. Some (item_of y)) (sym e)
item_at (x ∷ rs) (suc i) r low e = item_at rs i r (omega arith) e

pub none_at : (rs : List Record) (i : ℕ) → length rs ≤ i → slice_get rs i ≡ None
none_at [] i low = refl
none_at (r ∷ rs) zero low = absurd (omega arith)
none_at (r ∷ rs) (suc i) low = none_at rs i (omega arith)
