-- Sorted entries around one of them.
use Rattle.std.proofs.Common.{◌≡◌, ℕ, Bool, true, false, cond, List, [], ◌∷◌, ◌++◌, Option, Some, None, refl, sym, ap, ◌∙◌, subst}
use Rattle.std.specs.Str.{bytes_eq}
use Rattle.account_state.specs.Entries.{Entry, found_entry, is_before, AllBehind, IsSorted, put}
use Rattle.account_state.specs.declared.account.Account.{Account}
use Rattle.account_state.proofs.Order.{before_apart, behind_apart, before_trans, before_total, not_before, is_text}

pub behind_more : (a b : List ℕ) (es : List Entry) → is_before a b ≡ true → AllBehind b es → AllBehind a es
behind_more a b [] h all = tt
behind_more a b (e ∷ es) h all = (before_trans a b e.0 h all.0, behind_more a b es h all.1)

pub found_none : (did : List ℕ) (es : List Entry) → AllBehind did es → found_entry did es ≡ None
found_none did [] all = refl
found_none did (e ∷ es) all = ap (λ (b : Bool). cond b (Some e.1) (found_entry did es)) (before_apart did e.0 all.0) ∙ found_none did es all.1

pub found_later : (did : List ℕ) (e : Entry) (es : List Entry) → bytes_eq did e.0 ≡ false → found_entry did (e ∷ es) ≡ found_entry did es
found_later did e es h = ap (λ (b : Bool). cond b (Some e.1) (found_entry did es)) h

pub found_first : (did : List ℕ) (e : Entry) (es : List Entry) → bytes_eq did e.0 ≡ true → found_entry did (e ∷ es) ≡ Some e.1
found_first did e es h = ap (λ (b : Bool). cond b (Some e.1) (found_entry did es)) h

pub behind_middle : (did : List ℕ) (l : List Entry) (y : Entry) (r : List Entry) → AllBehind did (l ++ y ∷ r) → is_before did y.0 ≡ true
behind_middle did [] y r all = all.0
behind_middle did (z ∷ l) y r all = behind_middle did l y r all.1

behind_front : (did : List ℕ) (l r : List Entry) → AllBehind did (l ++ r) → AllBehind did l
behind_front did [] r all = tt
behind_front did (z ∷ l) r all = (all.0, behind_front did l r all.1)

pub sorted_left : (l r : List Entry) → IsSorted (l ++ r) → IsSorted l
sorted_left [] r s = tt
sorted_left (z ∷ l) r s = (behind_front z.0 l r s.0, sorted_left l r s.1)

pub sorted_right : (l : List Entry) (y : Entry) (r : List Entry) → IsSorted (l ++ y ∷ r) → IsSorted r
sorted_right [] y r s = s.1
sorted_right (z ∷ l) y r s = sorted_right l y r s.1

-- what stands before an entry is found on its left
pub found_left : (did : List ℕ) (l : List Entry) (y : Entry) (r : List Entry) → is_before did y.0 ≡ true → IsSorted (l ++ y ∷ r) → found_entry did (l ++ y ∷ r) ≡ found_entry did l
found_left did [] y r h s = found_none did (y ∷ r) (h, behind_more did y.0 r h s.0)
found_left did (z ∷ l) y r h s = ap (λ (o : Option Account). cond (bytes_eq did z.0) (Some z.1) o) (found_left did l y r h s.1)

-- what is its DID there
pub found_here : (did : List ℕ) (l : List Entry) (y : Entry) (r : List Entry) → did ≡ y.0 → IsSorted (l ++ y ∷ r) → found_entry did (l ++ y ∷ r) ≡ Some y.1
found_here did [] y r h s = found_first did y r (is_text did y.0 h)
found_here did (z ∷ l) y r h s =
    found_later did z (l ++ y ∷ r) (subst (λ (t : List ℕ). bytes_eq t z.0 ≡ false) (sym h) (behind_apart z.0 y.0 (behind_middle z.0 l y r s.0))) ∙ found_here did l y r h s.1

-- and what stands behind it on its right
pub found_right : (did : List ℕ) (l : List Entry) (y : Entry) (r : List Entry) → is_before y.0 did ≡ true → IsSorted (l ++ y ∷ r) → found_entry did (l ++ y ∷ r) ≡ found_entry did r
found_right did [] y r h s = found_later did y r (behind_apart y.0 did h)
found_right did (z ∷ l) y r h s =
    found_later did z (l ++ y ∷ r) (behind_apart z.0 did (before_trans z.0 y.0 did (behind_middle z.0 l y r s.0) h)) ∙ found_right did l y r h s.1

pub put_left : (e : Entry) (l : List Entry) (y : Entry) (r : List Entry) → is_before e.0 y.0 ≡ true → put e (l ++ y ∷ r) ≡ put e l ++ y ∷ r
put_left e [] y r h = ap (λ (b : Bool). cond b (e ∷ y ∷ r) (y ∷ put e r)) h
put_left e (z ∷ l) y r h =
    elim (is_before e.0 z.0) as (λ b. cond b (e ∷ z ∷ (l ++ y ∷ r)) (z ∷ put e (l ++ y ∷ r)) ≡ cond b (e ∷ z ∷ l) (z ∷ put e l) ++ y ∷ r) [
      | true ↦ refl
      | false ↦ ap (λ (es : List Entry). z ∷ es) (put_left e l y r h)
    ]

put_later : (e z : Entry) (es : List Entry) → is_before e.0 z.0 ≡ false → put e (z ∷ es) ≡ z ∷ put e es
put_later e z es h = ap (λ (b : Bool). cond b (e ∷ z ∷ es) (z ∷ put e es)) h

pub put_right : (e : Entry) (l : List Entry) (y : Entry) (r : List Entry) → is_before e.0 y.0 ≡ false → IsSorted (l ++ y ∷ r) → put e (l ++ y ∷ r) ≡ l ++ y ∷ put e r
put_right e [] y r h s = put_later e y r h
put_right e (z ∷ l) y r h s =
    put_later e z (l ++ y ∷ r) (not_before e.0 z.0 y.0 h (behind_middle z.0 l y r s.0)) ∙ ap (λ (es : List Entry). z ∷ es) (put_right e l y r h s.1)

behind_put : (did : List ℕ) (e : Entry) (es : List Entry) → is_before did e.0 ≡ true → AllBehind did es → AllBehind did (put e es)
behind_put did e [] h all = (h, tt)
behind_put did e (z ∷ es) h all =
    elim (is_before e.0 z.0) as (λ b. AllBehind did (cond b (e ∷ z ∷ es) (z ∷ put e es))) [
      | true ↦ (h, all)
      | false ↦ (all.0, behind_put did e es h all.1)
    ]

first_differs : (b : Bool) (x : Account) (o : Option Account) → cond b (Some x) o ≡ None → (b ≡ false) × (o ≡ None)
first_differs true x o h = absurd cc
first_differs false x o h = (refl, h)

-- where a DID isn't among sorted entries, they are sorted with it
pub sorted_put : (e : Entry) (es : List Entry) → found_entry e.0 es ≡ None → IsSorted es → IsSorted (put e es)
sorted_put e [] h s = (tt, tt)
sorted_put e (z ∷ es) h s =
    let absent = first_differs (bytes_eq e.0 z.0) z.1 (found_entry e.0 es) h in
    (elim (is_before e.0 z.0) as (λ b. is_before e.0 z.0 ≡ b → IsSorted (cond b (e ∷ z ∷ es) (z ∷ put e es))) [
      | true ↦ λ k. ((k, behind_more e.0 z.0 es k s.0), s)
      | false ↦ λ k. (behind_put z.0 e es (before_total e.0 z.0 k absent.0) s.0, sorted_put e es absent.1 s.1)
    ]) refl

-- any other DID finds what it found
pub found_other : (did : List ℕ) (e : Entry) (es : List Entry) → bytes_eq did e.0 ≡ false → found_entry did (put e es) ≡ found_entry did es
found_other did e [] h = found_later did e [] h
found_other did e (z ∷ es) h =
    elim (is_before e.0 z.0) as (λ b. found_entry did (cond b (e ∷ z ∷ es) (z ∷ put e es)) ≡ found_entry did (z ∷ es)) [
      | true ↦ found_later did e (z ∷ es) h
      | false ↦ ap (λ (o : Option Account). cond (bytes_eq did z.0) (Some z.1) o) (found_other did e es h)
    ]

-- and its own DID finds it
pub found_put : (e : Entry) (es : List Entry) → found_entry e.0 es ≡ None → found_entry e.0 (put e es) ≡ Some e.1
found_put e [] h = found_first e.0 e [] (is_text e.0 e.0 refl)
found_put e (z ∷ es) h =
    let absent = first_differs (bytes_eq e.0 z.0) z.1 (found_entry e.0 es) h in
    elim (is_before e.0 z.0) as (λ b. found_entry e.0 (cond b (e ∷ z ∷ es) (z ∷ put e es)) ≡ Some e.1) [
      | true ↦ found_first e.0 e (z ∷ es) (is_text e.0 e.0 refl)
      | false ↦ found_later e.0 z (put e es) absent.0 ∙ found_put e es absent.1
    ]
